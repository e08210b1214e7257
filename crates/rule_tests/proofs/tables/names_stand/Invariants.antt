use Rattle.std.proofs.Common.{◌≡◌, ℕ, ◌<◌, true}
use Rattle.ir_tree.specs.Naming.{name_at}
use Rattle.ir_rules.specs.Reading.{name_stands}
use Rattle.rule_tests.proofs.tables.names_stand.Given as goal

abbrev pub invariant-loop-i : goal.invariant-loop-i
invariant-loop-i l = (j : ℕ) → j < l.i → name_stands (name_at l.names j) ≡ true
