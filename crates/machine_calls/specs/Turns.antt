-- Turns of a loop, as the code tells of them.
use Rattle.std.specs.Prelude.{◌≡◌, ℕ, ◌==◌, ◌||◌, nat_eq, List, slice_get, Bool, Some, option_map}
use Rattle.std.specs.List.{list_any}
use Rattle.turn_laws.specs.Turns as turns
use Rattle.machine_calls.specs.declared.turn.Standing.{Standing}
use Rattle.machine_calls.specs.declared.turn.Standing.TheVariants as seen
use Rattle.machine_calls.specs.declared.turn.TurnEnd.{TurnEnd}
use Rattle.machine_calls.specs.declared.turn.TurnEnd.TheVariants as told

-- where a state stands
abbrev pub stands_at : Standing → turns.Standing
stands_at seen.AtHeader = turns.AtHeader
stands_at seen.Within = turns.Within
stands_at seen.Outside = turns.Outside

-- how a turn ended
abbrev pub end_of : TurnEnd → turns.TurnEnd
end_of told.Arrived = turns.Arrived
end_of told.Left = turns.Left
end_of (told.Ended n) = turns.Ended n
end_of (told.Trapped t site) = turns.Trapped t site
end_of told.Spent = turns.Spent

-- the mark of a block tells whether it is among these, where there is a mark
pub record AreMarked (blocks : List ℕ) (marks : List Bool) : Type 0 where
  pub each : (block : ℕ) (v : Bool) → slice_get marks block ≡ Some v → v ≡ list_any (nat_eq block) blocks

-- a block is marked, where there is room for it, and the other marks stay
pub record Marks (old new : List Bool) (block : ℕ) : Type 0 where
  pub each : (b : ℕ) → slice_get new b ≡ option_map (λ v. v || b == block) (slice_get old b)
