-- What holds of each item of a list.
use Rattle.std.proofs.Common.{◌≡◌, ℕ, zero, suc, ◌-◌, Option, Some, None, List, [], ◌∷◌, ◌++◌, map, take, drop, replicate, slice_get, slice_set, slice_range, ap}
use Rattle.std.specs.List.{AllByRecursion}

abbrev item : {X : Type 0} → X → Option X → X
item x (Some y) = y
item x None = x

module _ {X : Type 0} (P : X → Type 0) where
  pub by_append : (xs ys : List X) → AllByRecursion P xs → AllByRecursion P ys → AllByRecursion P (xs ++ ys)
  by_append [] ys h k = k
  by_append (x ∷ xs) ys h k = (h.0, by_append xs ys h.1 k)

  pub by_take : (n : ℕ) (xs : List X) → AllByRecursion P xs → AllByRecursion P (take n xs)
  by_take zero xs h = tt
  by_take (suc n) [] h = tt
  by_take (suc n) (x ∷ xs) h = (h.0, by_take n xs h.1)

  pub by_drop : (n : ℕ) (xs : List X) → AllByRecursion P xs → AllByRecursion P (drop n xs)
  by_drop zero xs h = h
  by_drop (suc n) [] h = tt
  by_drop (suc n) (x ∷ xs) h = by_drop n xs h.1

  pub by_range : (xs : List X) (a b : ℕ) → AllByRecursion P xs → AllByRecursion P (slice_range xs a b)
  by_range xs a b h = by_take (b - a) (drop a xs) (by_drop a xs h)

  pub by_replicate : (n : ℕ) (x : X) → P x → AllByRecursion P (replicate n x)
  by_replicate zero x p = tt
  by_replicate (suc n) x p = (p, by_replicate n x p)

  pub by_set : (xs : List X) (i : ℕ) (x : X) → P x → AllByRecursion P xs → AllByRecursion P (slice_set xs i x)
  by_set [] i x p h = tt
  by_set (y ∷ ys) zero x p h = (p, h.1)
  by_set (y ∷ ys) (suc i) x p h = (h.0, by_set ys i x p h.1)

  pub by_get : (xs : List X) (i : ℕ) (x : X) → AllByRecursion P xs → slice_get xs i ≡ Some x → P x
  by_get [] i x h e = absurd (cc)
  by_get (y ∷ ys) zero x h e = let q : y ≡ x = ap (item x) e in rw (← q) h.0
  by_get (y ∷ ys) (suc i) x h e = by_get ys i x h.1 e

pub by_weaker : {X : Type 0} (P Q : X → Type 0) → ((x : X) → P x → Q x) → (xs : List X) → AllByRecursion P xs → AllByRecursion Q xs
by_weaker P Q f [] h = tt
by_weaker P Q f (x ∷ xs) h = (f x h.0, by_weaker P Q f xs h.1)

pub by_map : {X Y : Type 0} (P : Y → Type 0) (f : X → Y) (xs : List X) → AllByRecursion (λ x. P (f x)) xs → AllByRecursion P (map f xs)
by_map P f [] h = tt
by_map P f (x ∷ xs) h = (h.0, by_map P f xs h.1)
