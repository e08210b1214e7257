use Rattle.std.proofs.Common.{◌-◌, ◌≡◌, ◌≤◌, MatchOption}
use Rattle.std.specs.Prelude.{⊤}
use Rattle.lifetime_check.specs.Alive.{short_from, left_of}
use Rattle.lifetime_check.proofs.Walk.{joined}
use Rattle.lifetime_check.proofs.alive.left_alive.Given as goal

-- what was counted, with the objects from the name on behind it, is all that is left; and each was counted at a name of its own
abbrev pub invariant-loop-name : goal.invariant-loop-name
invariant-loop-name l =
    (joined l.left (short_from l.name l.short l.memory.objects) ≡ left_of (short_from l.from l.short l.memory.objects))
    × MatchOption l.left ⊤ (λ x. x.count ≤ l.name)

abbrev pub decreases-loop-name : goal.decreases-loop-name
decreases-loop-name l = l.end - l.name
