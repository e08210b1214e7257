-- What holds of all items of a list.
use Rattle.std.proofs.Common.{◌≡◌, true, Bool, List, [], ◌∷◌, ◌++◌, map, Option, Some, None, refl, ◌⊎◌, inl, inr}
use Rattle.std.specs.Prelude.{IfSome, is_some}
use Rattle.std.specs.List.{AllByRecursion, list_all, flat_map, filter_map, cons_option}
use Rattle.ir_rules.proofs.SameLemmas.{and_both}
use Rattle.resolving_laws.proofs.Options.{all_append}

pub some_or_none : {A : Type 0} (o : Option A) → ((a : A) × (o ≡ Some a)) ⊎ (o ≡ None)
some_or_none None = inr refl
some_or_none (Some a) = inl (a, refl)

pub some_of : {A : Type 0} (o : Option A) → is_some o ≡ true → (a : A) × (o ≡ Some a)
some_of None e = absurd cc
some_of (Some a) e = (a, refl)

pub from_list_all : {A : Type 0} (p : A → Bool) (xs : List A) → list_all p xs ≡ true → AllByRecursion (λ a. p a ≡ true) xs
from_list_all p [] e = tt
from_list_all p (x ∷ xs) e = let h = and_both (p x) (list_all p xs) e in (h.0, from_list_all p xs h.1)

pub zipped : {A : Type 0} (P Q R : A → Type 0) → ((a : A) → P a → Q a → R a) → (xs : List A) → AllByRecursion P xs → AllByRecursion Q xs → AllByRecursion R xs
zipped P Q R to [] h g = tt
zipped P Q R to (x ∷ xs) h g = (to x h.0 g.0, zipped P Q R to xs h.1 g.1)

pub weaker : {A : Type 0} (P Q : A → Type 0) → ((a : A) → P a → Q a) → (xs : List A) → AllByRecursion P xs → AllByRecursion Q xs
weaker P Q to [] h = tt
weaker P Q to (x ∷ xs) h = (to x h.0, weaker P Q to xs h.1)

pub all_left : {A : Type 0} (P : A → Type 0) (xs ys : List A) → AllByRecursion P (xs ++ ys) → AllByRecursion P xs
all_left P [] ys h = tt
all_left P (x ∷ xs) ys h = (h.0, all_left P xs ys h.1)

pub all_right : {A : Type 0} (P : A → Type 0) (xs ys : List A) → AllByRecursion P (xs ++ ys) → AllByRecursion P ys
all_right P [] ys h = h
all_right P (x ∷ xs) ys h = all_right P xs ys h.1

pub all_made : {A B : Type 0} (g : A → B) (P : B → Type 0) (xs : List A) → AllByRecursion P (map g xs) → AllByRecursion (λ a. P (g a)) xs
all_made g P [] h = tt
all_made g P (x ∷ xs) h = (h.0, all_made g P xs h.1)

pub all_filter : {A B : Type 0} (g : A → Option B) (P : B → Type 0) (xs : List A) → AllByRecursion (λ a. IfSome (g a) P) xs → AllByRecursion P (filter_map g xs)
all_filter g P [] h = tt
all_filter g P (x ∷ xs) h = more (g x) (filter_map g xs) h.0 (all_filter g P xs h.1)
  where
    more : (o : Option _) (ys : List _) → IfSome o P → AllByRecursion P ys → AllByRecursion P (cons_option o ys)
    more None ys h k = k
    more (Some b) ys h k = (h, k)

pub of_filter : {A B : Type 0} (g : A → Option B) (P : B → Type 0) (xs : List A) → AllByRecursion P (filter_map g xs) → AllByRecursion (λ a. IfSome (g a) P) xs
of_filter g P [] h = tt
of_filter g P (x ∷ xs) h = let r = less (g x) (filter_map g xs) h in (r.0, of_filter g P xs r.1)
  where
    less : (o : Option _) (ys : List _) → AllByRecursion P (cons_option o ys) → IfSome o P × AllByRecursion P ys
    less None ys h = (tt, h)
    less (Some b) ys h = h

pub all_flat : {A B : Type 0} (g : A → List B) (P : B → Type 0) (xs : List A) → AllByRecursion (λ a. AllByRecursion P (g a)) xs → AllByRecursion P (flat_map g xs)
all_flat g P [] h = tt
all_flat g P (x ∷ xs) h = all_append P (g x) (flat_map g xs) h.0 (all_flat g P xs h.1)

pub of_flat : {A B : Type 0} (g : A → List B) (P : B → Type 0) (xs : List A) → AllByRecursion P (flat_map g xs) → AllByRecursion (λ a. AllByRecursion P (g a)) xs
of_flat g P [] h = tt
of_flat g P (x ∷ xs) h = (all_left P (g x) (flat_map g xs) h, of_flat g P xs (all_right P (g x) (flat_map g xs) h))
