use Rattle.std.proofs.Common.{◌≡◌, ℕ, ◌<◌, true}
use Rattle.ir_tree.specs.Naming.{type_at}
use Rattle.ir_tree.specs.Modules.{types_of}
use Rattle.ir_rules.specs.Reading.{level_stands}
use Rattle.rule_tests.proofs.tables.types_stand.Given as goal

abbrev pub invariant-loop-i : goal.invariant-loop-i
invariant-loop-i l = (j : ℕ) → j < l.i → level_stands (types_of l.tree) (type_at l.tree.names j) ≡ true
