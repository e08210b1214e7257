-- Walks round a circle.
use Rattle.std.specs.Prelude.{ℕ, ◌+◌, ◌*◌, ◌%◌, ◌^◌, ◌<◌, ◌≤◌, Bool, nat_lt}
use Rattle.turn_count.specs.Turns.{count}
use Rattle.turn_count.specs.declared.walk.Walk.{Walk}

-- its places are at most 2^64
pub record IsWalk (walk : Walk) : Type 0 where
  pub whole : walk.whole ≤ 2 ^ 64
  pub inside : walk.inside ≤ walk.whole
  pub place : walk.place < walk.whole
  pub step : walk.step < walk.whole

-- whether the walk stands inside after so many steps
abbrev pub is_inside : Walk → ℕ → Bool
is_inside walk turn = nat_lt ((walk.place + turn * walk.step) % walk.whole) walk.inside

-- how many steps from the first on begin inside
abbrev pub steps_inside : Walk → ℕ → ℕ
steps_inside walk cap = count (is_inside walk) 0 cap
