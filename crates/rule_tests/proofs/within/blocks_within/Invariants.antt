use Rattle.std.proofs.Common.{◌≡◌, drop}
use Rattle.std.specs.List.{list_all}
use Rattle.ir_rules.specs.Numbering.{block_within}
use Rattle.rule_tests.proofs.within.blocks_within.Given as goal

abbrev pub invariant-loop-block : goal.invariant-loop-block
invariant-loop-block l = list_all (block_within l.names) l.blocks ≡ list_all (block_within l.names) (drop l.block-index l.blocks)
