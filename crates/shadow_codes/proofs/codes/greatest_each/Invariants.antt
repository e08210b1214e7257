use Rattle.std.proofs.Common.{◌≡◌, take}
use Rattle.shadow_codes.specs.Codes.{greatest_of, stamps}
use Rattle.shadow_codes.proofs.codes.greatest_each.Given as goal

abbrev pub invariant-loop-code : goal.invariant-loop-code
invariant-loop-code l = l.most ≡ greatest_of (stamps (take l.code-index l.codes))
