use Rattle.std.proofs.Common.{◌≡◌, ℕ, ◌<◌, false}
use Rattle.pv_base.specs.declared.name.Name.TheVariants.{Numbered}
use Rattle.ir_tree.specs.Table.{same_name}
use Rattle.ir_tree.specs.Naming.{name_at}
use Rattle.ir_checker.proofs.keys.zero_key.Given as goal

abbrev pub invariant-loop-i : goal.invariant-loop-i
invariant-loop-i l = (j : ℕ) → j < l.i → same_name (name_at l.names j) (Numbered 0) ≡ false
