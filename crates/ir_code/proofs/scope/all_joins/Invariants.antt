use Rattle.std.proofs.Common.{◌≡◌, map, take}
use Rattle.ir_code.specs.Blocks.{joins_of}
use Rattle.ir_code.proofs.scope.all_joins.Given as goal

abbrev pub invariant-loop-block : goal.invariant-loop-block
invariant-loop-block l = l.all ≡ map (λ b. joins_of b.instructions) (take l.block-index l.blocks)
