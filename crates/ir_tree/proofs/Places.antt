-- Where a key stands among distinct ones.
use Rattle.std.proofs.Common.{◌≡◌, ℕ, zero, suc, Bool, true, false, List, [], ◌∷◌, Some, slice_get, refl, sym, ap, subst, ◌∙◌}
use Rattle.std.specs.List.{AllByRecursion, IsDistinct}

each_at : {X : Type 0} (P : X → Type 0) (xs : List X) (j : ℕ) (y : X) → AllByRecursion P xs → slice_get xs j ≡ Some y → P y
each_at P [] j y all is = absurd cc
each_at P (x ∷ xs) zero y all is = let e : x ≡ y = cc in subst P e all.0
each_at P (x ∷ xs) (suc j) y all is = each_at P xs j y all.1 is

pub one_place : {X : Type 0} (e : X → X → Bool) (x : X) → e x x ≡ true → (xs : List X) (i j : ℕ) → IsDistinct e xs → slice_get xs i ≡ Some x → slice_get xs j ≡ Some x → i ≡ j
unfolding IsDistinct
one_place e x same [] i j distinct at to = absurd cc
one_place e x same (y ∷ xs) zero zero distinct at to = refl
one_place e x same (y ∷ xs) zero (suc j) distinct at to =
    let first : y ≡ x = cc in
    let no = each_at (λ z. e y z ≡ false) xs j x distinct.0 to in
    let clash : e x x ≡ false = ap (λ z. e z x) (sym first) ∙ no in
    absurd cc
one_place e x same (y ∷ xs) (suc i) zero distinct at to =
    let first : y ≡ x = cc in
    let no = each_at (λ z. e y z ≡ false) xs i x distinct.0 at in
    let clash : e x x ≡ false = ap (λ z. e z x) (sym first) ∙ no in
    absurd cc
one_place e x same (y ∷ xs) (suc i) (suc j) distinct at to = ap suc (one_place e x same xs i j distinct.1 at to)
