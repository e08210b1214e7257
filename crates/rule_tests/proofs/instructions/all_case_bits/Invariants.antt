use Rattle.std.proofs.Common.{◌≡◌, take}
use Rattle.std.specs.List.{filter_map}
use Rattle.ir_tree.specs.Naming.{constant_at}
use Rattle.ir_rules.specs.Constants.{constant_bits}
use Rattle.rule_tests.proofs.instructions.all_case_bits.Given as goal

abbrev pub invariant-loop-case : goal.invariant-loop-case
invariant-loop-case l = l.all ≡ filter_map (λ c. constant_bits (constant_at l.names c.value)) (take l.case-index l.cases)
