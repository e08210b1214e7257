use Rattle.std.proofs.Common.{◌≡◌, drop, length}
use Rattle.std.specs.Prelude.{nat_le, sum_by}
use Rattle.rule_tests.proofs.functions.count_below.Given as goal

abbrev pub invariant-loop-block : goal.invariant-loop-block
invariant-loop-block l = nat_le (sum_by (λ b. length b.instructions) l.blocks) 4294967295 ≡ nat_le (sum_by (λ b. length b.instructions) (drop l.block-index l.blocks)) l.left
