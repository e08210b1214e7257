use Rattle.std.proofs.Common.{◌≡◌, map, take}
use Rattle.ir_tree.specs.Naming.{type_at}
use Rattle.ir_tree.specs.Shown.{shown_operand}
use Rattle.ir_rules.specs.Causes.{operand_index}
use Rattle.rule_tests.proofs.instructions.indices.Given as goal

abbrev pub invariant-loop-argument : goal.invariant-loop-argument
invariant-loop-argument l = l.numbers ≡ map (λ a. operand_index (type_at l.names a.of) (shown_operand l.names a.value)) (take l.argument-index l.arguments)
