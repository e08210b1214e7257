-- Tests of each item of a list, item by item.
use Rattle.std.proofs.Common.{◌≡◌, ℕ, suc, ◌<◌, ◌≤◌, ◌+◌, Bool, true, false, List, length, drop, get_or, refl, sym, ◌∙◌, add-one}
use Rattle.std.specs.Prelude.{◌&&◌}
use Rattle.std.specs.List.{list_all}
use Rattle.std.proofs.Math.Seq.{drop-cons}
use Rattle.std.proofs.lemmas.List.{drop_all}

pub and_true : (b : Bool) → (b && true) ≡ b
and_true true = refl
and_true false = refl

module _ {X : Type 0} (p : X → Bool) (xs : List X) (i : ℕ) (d : X) (r : Bool) (lt : i < length xs) (so : list_all p xs ≡ list_all p (drop i xs)) (is : r ≡ p (get_or xs i d)) where
  step : list_all p xs ≡ (p (get_or xs i d) && list_all p (drop (suc i) xs))
  step = so ∙ rw (drop-cons xs i d) refl

  pub all_stop : r ≡ false → false ≡ list_all p xs
  all_stop e = let h : p (get_or xs i d) ≡ false = sym is ∙ e in sym (step ∙ rw h refl)

  pub all_more : r ≡ true → list_all p xs ≡ list_all p (drop (i + 1) xs)
  all_more e = let h : p (get_or xs i d) ≡ true = sym is ∙ e in rw add-one (step ∙ rw h refl)

pub all_end : {X : Type 0} (p : X → Bool) (xs : List X) (i : ℕ) → length xs ≤ i → list_all p xs ≡ list_all p (drop i xs) → true ≡ list_all p xs
all_end p xs i le so = sym (so ∙ rw (drop_all i xs le) refl)
