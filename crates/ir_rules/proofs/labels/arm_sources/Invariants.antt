use Rattle.std.proofs.Common.{◌≡◌, map, take}
use Rattle.ir_rules.proofs.labels.arm_sources.Given as goal

abbrev pub invariant-loop-arm : goal.invariant-loop-arm
invariant-loop-arm l = l.labels ≡ map (λ a. a.from) (take l.arm-index l.arms)
