use Rattle.std.proofs.Common.{◌≡◌, map, take}
use Rattle.ir_rules.specs.declared.given.Given.TheVariants.{Written}
use Rattle.ir_rules.specs.Forms.{used}
use Rattle.ir_rules.proofs.forms.with_arms.Given as goal

abbrev pub invariant-loop-arm : goal.invariant-loop-arm
invariant-loop-arm l = l.uses ≡ map (λ a. used a.value (Written l.of)) (take l.arm-index l.arms)
