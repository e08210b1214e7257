use Rattle.std.proofs.Common.{◌≡◌, length}
use Rattle.profile_lines.specs.Names.{unquoted}
use Rattle.profile_lines.proofs.FrontLemmas.{after}
use Rattle.profile_lines.proofs.name.unquoted.Given as goal

-- the bytes so far and those of the rest are those of the whole
abbrev pub invariant-loop-rest : goal.invariant-loop-rest
invariant-loop-rest l = after l.name (unquoted l.rest) ≡ unquoted l.fn.text

abbrev pub decreases-loop-rest : goal.decreases-loop-rest
decreases-loop-rest l = length l.rest
