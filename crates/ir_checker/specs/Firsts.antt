-- Where a number stands first in a list.
use Rattle.std.specs.Prelude.{ℕ, ◌+◌, nat_eq, List, [], ◌∷◌, Option, Some, None, option_map, if◌then◌else◌}

unfoldable pub first_place : ℕ → List ℕ → Option ℕ
first_place q [] = None
first_place q (x ∷ xs) = if nat_eq q x then Some 0 else option_map (λ k. k + 1) (first_place q xs)
