use Rattle.std.proofs.Common.{ℕ, ◌+◌, ◌*◌, ◌%◌, ◌<◌, ◌≡◌, true}
use Rattle.turn_count.specs.Walks.{is_inside}
use Rattle.turn_count.proofs.walk.one_by_one.Given as goal

-- the place after the steps so far, each of which began inside
abbrev pub invariant-loop-steps : goal.invariant-loop-steps
invariant-loop-steps l = (l.place ≡ (l.walk.place + l.steps * l.walk.step) % l.walk.whole) × ((j : ℕ) → j < l.steps → is_inside l.walk j ≡ true)
