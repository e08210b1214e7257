use Rattle.std.proofs.Common.{◌≡◌, map, take, Some}
use Rattle.ir_code.proofs.joins.labels_of.Given as goal

abbrev pub invariant-loop-arm : goal.invariant-loop-arm
invariant-loop-arm l = l.labels ≡ map (λ a. Some a.from) (take l.arm-index l.arms)
