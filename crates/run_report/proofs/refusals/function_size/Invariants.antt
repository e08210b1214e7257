use Rattle.std.proofs.Common.{◌≡◌, ◌+◌, sum_by, drop}
use Rattle.run_report.specs.Refusals.{block_size}
use Rattle.run_report.proofs.refusals.function_size.Given as goal

abbrev pub invariant-loop-block : goal.invariant-loop-block
invariant-loop-block l = l.count + sum_by block_size (drop l.block-index l.blocks) ≡ sum_by block_size l.blocks
