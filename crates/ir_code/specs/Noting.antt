-- A table of first places, as names are added.
use Rattle.std.specs.Prelude.{◌≡◌, ℕ, List, Option, Some, None, nat_eq, if◌then◌else◌}
use Rattle.std.specs.Option.{option_or}
use Rattle.indexmap.specs.IndexMap.{IndexMap, get}
use Rattle.ir_code.specs.Places.{is_name, place_of}

-- each name is found by its first place
pub record AreFirst {S : Type 0} (names : List (Option ℕ)) (first : IndexMap ℕ ℕ S) : Type 0 where
  pub each : (x : ℕ) → get nat_eq first x ≡ place_of names x

-- a name's place is noted, where it has none yet, and those of the others stay
pub record Notes {S : Type 0} (old new : IndexMap ℕ ℕ S) (name : Option ℕ) (place : ℕ) : Type 0 where
  pub each : (x : ℕ) → get nat_eq new x ≡ option_or (get nat_eq old x) (if is_name x name then Some place else None)

pub record Keeps {S : Type 0} (old new : IndexMap ℕ ℕ S) : Type 0 where
  pub each : (x : ℕ) → get nat_eq new x ≡ get nat_eq old x
