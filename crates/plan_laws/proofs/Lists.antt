-- What is in lists.
use Rattle.std.proofs.Common.{◌≡◌, Bool, true, false, List, [], ◌∷◌, ◌++◌, Option, Some, None, refl, sym, subst, ap, ◌∙◌, ◌⊎◌, inl, inr}
use Rattle.std.specs.Prelude.{◌&&◌, ◌||◌, not, find, cond}
use Rattle.std.specs.List.{filter, filter_map, flat_map, list_any, list_all, cons_option}
use Rattle.plan_laws.specs.Laws.{Has}

pub and_both : (a b : Bool) → (a && b) ≡ true → (a ≡ true) × (b ≡ true)
and_both true b e = (refl, e)
and_both false b e = absurd cc

pub not_true : (a : Bool) → not a ≡ true → a ≡ false
not_true true e = absurd cc
not_true false e = refl

pub not_false : (a : Bool) → not a ≡ false → a ≡ true
not_false true e = refl
not_false false e = absurd cc

or_true : (b : Bool) → (b || true) ≡ true
or_true true = refl
or_true false = refl

-- over lists of one type
module _ {A : Type 0} where
  pub in_append : (xs ys : List A) (x : A) → Has (xs ++ ys) x → Has xs x ⊎ Has ys x
  in_append [] ys x h = inr h
  in_append (z ∷ xs) ys x (inl e) = inl (inl e)
  in_append (z ∷ xs) ys x (inr h) = elim (in_append xs ys x h) [ inl a ↦ inl (inr a) | inr b ↦ inr b ]

  pub in_front : (xs ys : List A) (x : A) → Has xs x → Has (xs ++ ys) x
  in_front [] ys x h = absurd h
  in_front (z ∷ xs) ys x (inl e) = inl e
  in_front (z ∷ xs) ys x (inr h) = inr (in_front xs ys x h)

  pub behind : (xs ys : List A) (x : A) → Has ys x → Has (xs ++ ys) x
  behind [] ys x h = h
  behind (z ∷ xs) ys x h = inr (behind xs ys x h)

  pub all_hold : (p : A → Bool) (xs : List A) (x : A) → list_all p xs ≡ true → Has xs x → p x ≡ true
  all_hold p [] x e h = absurd h
  all_hold p (y ∷ ys) x e (inl s) = subst (λ z. p z ≡ true) s (and_both (p y) (list_all p ys) e).0
  all_hold p (y ∷ ys) x e (inr h) = all_hold p ys x (and_both (p y) (list_all p ys) e).1 h

  none_or : (p : A → Bool) (y : A) (ys : List A) (x : A) → (list_any p ys ≡ false → Has ys x → p x ≡ false) → (b : Bool) → p y ≡ b → (b || list_any p ys) ≡ false → Has (y ∷ ys) x → p x ≡ false
  none_or p y ys x rest true is e h = absurd cc
  none_or p y ys x rest false is e (inl s) = subst (λ z. p z ≡ false) s is
  none_or p y ys x rest false is e (inr h) = rest e h

  -- no test of the list passes
  pub none_holds : (p : A → Bool) (xs : List A) (x : A) → list_any p xs ≡ false → Has xs x → p x ≡ false
  none_holds p [] x e h = absurd h
  none_holds p (y ∷ ys) x e h = none_or p y ys x (none_holds p ys x) (p y) refl e h

  -- a test of the list passes
  pub one_holds : (p : A → Bool) (xs : List A) (x : A) → p x ≡ true → Has xs x → list_any p xs ≡ true
  one_holds p [] x e h = absurd h
  one_holds p (y ∷ ys) x e (inl s) = let own : p y ≡ true = ap p s ∙ e in rw own refl
  one_holds p (y ∷ ys) x e (inr h) = let rest = one_holds p ys x e h in rw rest (or_true (p y))

  found_or : (p : A → Bool) (y : A) (ys : List A) (x : A) → (find p ys ≡ None → Has ys x → p x ≡ false) → (b : Bool) → p y ≡ b → cond b (Some y) (find p ys) ≡ None → Has (y ∷ ys) x → p x ≡ false
  found_or p y ys x rest true is e h = absurd cc
  found_or p y ys x rest false is e (inl s) = subst (λ z. p z ≡ false) s is
  found_or p y ys x rest false is e (inr h) = rest e h

  -- nothing was found
  pub not_found : (p : A → Bool) (xs : List A) (x : A) → find p xs ≡ None → Has xs x → p x ≡ false
  not_found p [] x e h = absurd h
  not_found p (y ∷ ys) x e h = found_or p y ys x (not_found p ys x) (p y) refl e h

  kept_or : (p : A → Bool) (y : A) (ys : List A) (x : A) → p x ≡ true → (Has ys x → Has (filter p ys) x) → (b : Bool) → p y ≡ b → Has (y ∷ ys) x → Has (cond b (y ∷ filter p ys) (filter p ys)) x
  kept_or p y ys x e rest true is (inl s) = inl s
  kept_or p y ys x e rest true is (inr h) = inr (rest h)
  kept_or p y ys x e rest false is (inl s) = let no : p y ≡ true = ap p s ∙ e in absurd cc
  kept_or p y ys x e rest false is (inr h) = rest h

  pub in_filter : (p : A → Bool) (xs : List A) (x : A) → p x ≡ true → Has xs x → Has (filter p xs) x
  in_filter p [] x e h = absurd h
  in_filter p (y ∷ ys) x e h = kept_or p y ys x e (in_filter p ys x e) (p y) refl h

-- over lists of two types
module _ {A B : Type 0} where
  given_or : (f : A → Option B) (x : A) (xs : List A) (y : B) → (Has (filter_map f xs) y → (a : A) × Has xs a × (f a ≡ Some y)) → (o : Option B) → f x ≡ o → Has (cons_option o (filter_map f xs)) y → (a : A) × Has (x ∷ xs) a × (f a ≡ Some y)
  given_or f x xs y rest None is h = let r = rest h in (r.0, inr r.1, r.2)
  given_or f x xs y rest (Some z) is (inl s) = (x, inl refl, is ∙ ap Some s)
  given_or f x xs y rest (Some z) is (inr h) = let r = rest h in (r.0, inr r.1, r.2)

  -- what it is given of
  pub given_of : (f : A → Option B) (xs : List A) (y : B) → Has (filter_map f xs) y → (a : A) × Has xs a × (f a ≡ Some y)
  given_of f [] y h = absurd h
  given_of f (x ∷ xs) y h = given_or f x xs y (given_of f xs y) (f x) refl h

  gives_or : (f : A → Option B) (x : A) (xs : List A) (a : A) (y : B) → f a ≡ Some y → (Has xs a → Has (filter_map f xs) y) → (o : Option B) → f x ≡ o → Has (x ∷ xs) a → Has (cons_option o (filter_map f xs)) y
  gives_or f x xs a y e rest None is (inl s) = let no : f x ≡ Some y = ap f s ∙ e in absurd cc
  gives_or f x xs a y e rest None is (inr h) = rest h
  gives_or f x xs a y e rest (Some z) is (inl s) = let own : f x ≡ Some y = ap f s ∙ e in let same : z ≡ y = cc in inl same
  gives_or f x xs a y e rest (Some z) is (inr h) = inr (rest h)

  pub gives : (f : A → Option B) (xs : List A) (a : A) (y : B) → f a ≡ Some y → Has xs a → Has (filter_map f xs) y
  gives f [] a y e h = absurd h
  gives f (x ∷ xs) a y e h = gives_or f x xs a y e (gives f xs a y e) (f x) refl h

  pub of_flat : (f : A → List B) (xs : List A) (y : B) → Has (flat_map f xs) y → (a : A) × Has xs a × Has (f a) y
  of_flat f [] y h = absurd h
  of_flat f (x ∷ xs) y h = elim (in_append (f x) (flat_map f xs) y h) [
    | inl a ↦ (x, inl refl, a)
    | inr b ↦ let r = of_flat f xs y b in (r.0, inr r.1, r.2)
  ]

  pub in_flat : (f : A → List B) (xs : List A) (a : A) (y : B) → Has xs a → Has (f a) y → Has (flat_map f xs) y
  in_flat f [] a y h g = absurd h
  in_flat f (x ∷ xs) a y (inl s) g = in_front (f x) (flat_map f xs) y (subst (λ z. Has (f z) y) (sym s) g)
  in_flat f (x ∷ xs) a y (inr h) g = behind (f x) (flat_map f xs) y (in_flat f xs a y h g)
