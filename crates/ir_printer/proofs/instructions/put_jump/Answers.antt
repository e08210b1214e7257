use Rattle.std.proofs.Common.{◌∷◌, []}
use Rattle.std.specs.Prelude.{codes}
use Rattle.ir_tree.specs.Naming.{name_at}
use Rattle.ir_tree.specs.Shown.{shown}
use Rattle.ir_printer.specs.Pieces.{Blank, Word, Local}
use Rattle.ir_printer.specs.Instructions.{instruction_pieces}
use Rattle.ir_printer.proofs.Spelled.{put_last}
use Rattle.ir_printer.proofs.instructions.put_jump.Goals as goal

pub returns : goal.returns
unfolding instruction_pieces shown
returns c =
    put_last c.put_local.result c.args.to.now c.append.new.self c.put_local.new.to (Word (codes "br") ∷ Blank ∷ Word (codes "label") ∷ Blank ∷ []) (Local (name_at c.args.names.now c.args.target) ∷ [])
    (c.in_ok-append.ensures.ok) c.put_local.ensures
