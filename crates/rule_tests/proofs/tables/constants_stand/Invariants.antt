use Rattle.std.proofs.Common.{◌≡◌, ℕ, ◌<◌, true}
use Rattle.ir_tree.specs.Naming.{constant_at}
use Rattle.ir_tree.specs.Modules.{types_of}
use Rattle.ir_rules.specs.Reading.{address_stands}
use Rattle.rule_tests.proofs.tables.constants_stand.Given as goal

abbrev pub invariant-loop-i : goal.invariant-loop-i
invariant-loop-i l = (j : ℕ) → j < l.i → address_stands (types_of l.tree) (constant_at l.tree.names j) ≡ true
