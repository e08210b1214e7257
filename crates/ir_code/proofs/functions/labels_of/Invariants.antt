use Rattle.std.proofs.Common.{◌≡◌, map, take, Some}
use Rattle.ir_code.proofs.functions.labels_of.Given as goal

abbrev pub invariant-loop-block : goal.invariant-loop-block
invariant-loop-block l = l.labels ≡ map (λ b. Some b.label) (take l.block-index l.blocks)
