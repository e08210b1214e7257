-- Where names stand in a list, in which an item may have none.
use Rattle.std.specs.Prelude.{ℕ, suc, ◌+◌, List, [], ◌∷◌, Bool, false, Option, Some, None, option_map, nat_eq, if◌then◌else◌}
use Rattle.ir_code.specs.Options.{◌>>=◌}

abbrev pub is_name : ℕ → Option ℕ → Bool
is_name x None = false
is_name x (Some y) = nat_eq x y

-- the place of the first item of this name
abbrev pub place_of : List (Option ℕ) → ℕ → Option ℕ
place_of [] x = None
place_of (name ∷ names) x = if is_name x name then Some 0 else option_map suc (place_of names x)

-- the number of the edge to the block of a label, from the labels of the blocks, where the edges of this block lead and are
-- numbered from `first` on
abbrev pub exit_at : List (Option ℕ) → List (Option ℕ) → ℕ → ℕ → Option ℕ
exit_at labels targets first label = do
  to ← place_of labels label
  place ← place_of targets to
  Some (first + place)
