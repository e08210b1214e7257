-- A fold over what a function makes of the items, an item further.
use Rattle.std.proofs.Common.{◌≡◌, ℕ, zero, suc, ◌+◌, ◌<◌, List, [], ◌∷◌, length, map, take, get_or, refl, arith, add-one}
use Rattle.std.specs.Prelude.{fold}

pub fold_map_more : {A B C : Type 0} (f : C → B → C) (a : C) (h : A → B) (xs : List A) (i : ℕ) (d : A) → i < length xs → fold f a (map h (take (i + 1) xs)) ≡ f (fold f a (map h (take i xs))) (h (get_or xs i d))
fold_map_more f a h [] i d lt = absurd (omega arith)
fold_map_more f a h (x ∷ xs) zero d lt = refl
fold_map_more f a h (x ∷ xs) (suc i) d lt =
    rw add-one (rw add-one at (fold_map_more f (f a (h x)) h xs i d (omega arith)))
