use Rattle.std.proofs.Common.{◌≡◌, map, take}
use Rattle.ir_tree.specs.Naming.{type_at}
use Rattle.ir_rules.specs.Constants.{constant_index}
use Rattle.ir_rules.specs.Heads.{constant_below}
use Rattle.rule_tests.proofs.levels.indices_before.Given as goal

abbrev pub invariant-loop-element : goal.invariant-loop-element
invariant-loop-element l = l.indices ≡ map (λ e. constant_index (type_at l.names e.of) (constant_below l.names l.before e.value)) (take l.element-index l.elements)
