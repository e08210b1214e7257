use Rattle.std.proofs.Common.{◌≡◌, drop}
use Rattle.std.specs.List.{list_all}
use Rattle.ir_rules.specs.Numbering.{instruction_within}
use Rattle.rule_tests.proofs.within.instructions_within.Given as goal

abbrev pub invariant-loop-instruction : goal.invariant-loop-instruction
invariant-loop-instruction l = list_all (instruction_within l.names) l.instructions ≡ list_all (instruction_within l.names) (drop l.instruction-index l.instructions)
