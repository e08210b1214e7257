use Rattle.std.proofs.Common.{◌≡◌, ◌-◌, ◌^◌, min, take}
use Rattle.profile_lines.specs.Numbers.{decimal}
use Rattle.profile_lines.proofs.number.magnitude.Given as goal

abbrev pub invariant-loop-digit : goal.invariant-loop-digit
invariant-loop-digit l = l.value ≡ min (decimal (take l.digit-index l.digits)) (2 ^ 64 - 1)
