use Rattle.std.proofs.Common.{◌≡◌, drop}
use Rattle.std.specs.List.{list_all}
use Rattle.ir_tree.specs.Shown.{shown}
use Rattle.ir_tree.specs.Modules.{types_of}
use Rattle.ir_rules.specs.Reading.{instruction_stands}
use Rattle.rule_tests.proofs.functions.blocks_stand.Given as goal

abbrev pub invariant-loop-block : goal.invariant-loop-block
invariant-loop-block l =
    list_all (λ b. list_all (λ i. instruction_stands (types_of l.tree) (shown l.tree.names i)) b.instructions) l.blocks
    ≡ list_all (λ b. list_all (λ i. instruction_stands (types_of l.tree) (shown l.tree.names i)) b.instructions) (drop l.block-index l.blocks)
