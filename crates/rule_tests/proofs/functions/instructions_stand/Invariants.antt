use Rattle.std.proofs.Common.{◌≡◌, drop}
use Rattle.std.specs.List.{list_all}
use Rattle.ir_tree.specs.Shown.{shown}
use Rattle.ir_tree.specs.Modules.{types_of}
use Rattle.ir_rules.specs.Reading.{instruction_stands}
use Rattle.rule_tests.proofs.functions.instructions_stand.Given as goal

abbrev pub invariant-loop-instruction : goal.invariant-loop-instruction
invariant-loop-instruction l =
    list_all (λ i. instruction_stands (types_of l.tree) (shown l.tree.names i)) l.instructions ≡ list_all (λ i. instruction_stands (types_of l.tree) (shown l.tree.names i)) (drop l.instruction-index l.instructions)
