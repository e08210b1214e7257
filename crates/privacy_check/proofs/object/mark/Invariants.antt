use Rattle.std.proofs.Common.{◌≡◌, ◌++◌, take, drop}
use Rattle.privacy_check.specs.Shadows.{passed}
use Rattle.privacy_check.proofs.object.mark.Given as goal

abbrev pub invariant-loop-code : goal.invariant-loop-code
invariant-loop-code l = l.codes ≡ passed l.access l.beta (take l.code-index l.fn.codes) ++ drop l.code-index l.fn.codes
