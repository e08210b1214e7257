-- What a look-up that finds something says of the number.
use Rattle.std.proofs.Common.{◌≡◌, ℕ, zero, suc, ◌<◌, List, [], ◌∷◌, length, Option, Some, None, false, arith}
use Rattle.std.specs.Prelude.{slice_index_or, is_none}

found_at : {X : Type 0} (xs : List (Option X)) (k : ℕ) (x : X) → slice_index_or xs k None ≡ Some x → k < length xs
found_at [] k x e = absurd cc
found_at (o ∷ xs) zero x e = omega arith
found_at (o ∷ xs) (suc k) x e = let lt : k < length xs = found_at xs k x e in omega arith

pub found_within : {X : Type 0} (xs : List (Option X)) (k : ℕ) (o : Option X) → o ≡ slice_index_or xs k None → is_none o ≡ false → k < length xs
found_within xs k None e some = absurd cc
found_within xs k (Some x) e some = found_at xs k x cc
