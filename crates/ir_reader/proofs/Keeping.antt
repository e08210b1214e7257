-- What is kept as the table grows.
use Rattle.std.proofs.Common.{ℕ, List}
use Rattle.ir_tree.specs.Table.{Table}
use Rattle.ir_tree.specs.Naming.{Grows}
use Rattle.ir_tree.proofs.Showing.{name_within_more}
use Rattle.ir_text.proofs.LaidOut.{laid_later}
use Rattle.ir_instr.specs.Defined.{IsNew}
use Rattle.ir_instr.proofs.Kept.{types_kept, names_kept}

pub ruleset keeping = (laid_later, types_kept, names_kept)

-- a name that is none of these stays one
pub new_later : (a b : Table) (ks : List ℕ) (k : ℕ) → IsNew a ks k → Grows a b → IsNew b ks k
new_later a b ks k new grows = record { within = name_within_more a b k grows new.within; is_new = new.is_new }
