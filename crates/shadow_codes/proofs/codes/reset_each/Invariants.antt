use Rattle.std.proofs.Common.{◌≡◌, ◌++◌, map, take, drop}
use Rattle.shadow_codes.specs.Codes.{reset_code}
use Rattle.shadow_codes.proofs.codes.reset_each.Given as goal

abbrev pub invariant-loop-code : goal.invariant-loop-code
invariant-loop-code l = l.codes ≡ map reset_code (take l.code-index l.fn.codes) ++ drop l.code-index l.fn.codes
