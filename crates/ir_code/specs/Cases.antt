-- The cases of a switch: pairs of a value's bits and the edge that is taken there.
use Rattle.std.specs.Prelude.{◌≡◌, ℕ, List, [], ◌∷◌, ◌++◌, Option, is_some, nat_eq, if◌then◌else◌}
use Rattle.std.specs.Map.{lookup}
use Rattle.std.specs.Ordering.{nat_cmp}
use Rattle.std.specs.BTreeMap.{BTreeMap, get}

-- the edge of a value
abbrev pub edge_of : List (ℕ × ℕ) → ℕ → Option ℕ
edge_of cases value = lookup (nat_eq value) cases

-- one more case, which stands last where its value is new
abbrev pub with_case : List (ℕ × ℕ) → ℕ → ℕ → List (ℕ × ℕ)
with_case cases value edge = if is_some (edge_of cases value) then cases else cases ++ (value, edge) ∷ []

-- each value is found with the edge of its first case
pub record AreFound (cases : List (ℕ × ℕ)) (edges : BTreeMap ℕ ℕ) : Type 0 where
  pub each : (x : ℕ) → get nat_cmp edges x ≡ edge_of cases x
