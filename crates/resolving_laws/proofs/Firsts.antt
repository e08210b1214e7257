-- What is found in a list is the first that passes.
use Rattle.std.proofs.Common.{◌≡◌, ℕ, zero, suc, ◌+◌, ◌<◌, Bool, true, false, List, [], ◌∷◌, map, Option, Some, None, slice_get, refl, sym, ap, subst, ◌∙◌, arith, if◌then◌else◌, eqb-true, eq-eqb}
use Rattle.std.specs.Prelude.{IfSome, option_map, find, cond, nat_eq}
use Rattle.ir_code.specs.declared.op.Fixed.{Fixed}
use Rattle.ir_code.specs.Places.{is_name, place_of}
use Rattle.ir_code.specs.Fixed.{first_item}
use Rattle.resolving_laws.specs.Looking.{IsFirst}
use Rattle.resolving_laws.proofs.Options.{then_map}

pub first_here : {A : Type 0} (P : A → Type 0) (x : A) (xs : List A) → P x → IsFirst P (x ∷ xs) 0
first_here P x xs p = record { item = x; at = refl; is = p; before = λ j y lt e q. absurd (omega arith) }

earlier : {A : Type 0} (P : A → Type 0) (x : A) (xs : List A) (k : ℕ) → (P x → ⊥) → ((j : ℕ) (y : A) → j < k → slice_get xs j ≡ Some y → P y → ⊥) → (j : ℕ) (y : A) → j < suc k → slice_get (x ∷ xs) j ≡ Some y → P y → ⊥
earlier P x xs k not before zero y lt e p = let same : y ≡ x = cc in not (subst P same p)
earlier P x xs k not before (suc j) y lt e p = before j y (omega arith) e p

pub first_later : {A : Type 0} (P : A → Type 0) (x : A) (xs : List A) (k : ℕ) → (P x → ⊥) → IsFirst P xs k → IsFirst P (x ∷ xs) (suc k)
first_later P x xs k not f = record { item = f.item; at = f.at; is = f.is; before = earlier P x xs k not f.before }

-- the same by another property
pub first_by : {A : Type 0} (P Q : A → Type 0) (xs : List A) (k : ℕ) → ((a : A) → P a → Q a) → ((a : A) → Q a → P a) → IsFirst P xs k → IsFirst Q xs k
first_by P Q xs k to from f = record { item = f.item; at = f.at; is = to f.item f.is; before = λ j x lt e q. f.before j x lt e (from x q) }

-- where an item of a list that was made from another stands, stands what it was made from
made_at : {A B : Type 0} (h : A → B) (xs : List A) (k : ℕ) (y : B) → slice_get (map h xs) k ≡ Some y → (x : A) × (slice_get xs k ≡ Some x) × (h x ≡ y)
made_at h [] k y e = absurd cc
made_at h (x ∷ xs) zero y e = (x, refl, cc)
made_at h (x ∷ xs) (suc k) y e = made_at h xs k y e

making : {A B : Type 0} (h : A → B) (xs : List A) (k : ℕ) (x : A) → slice_get xs k ≡ Some x → slice_get (map h xs) k ≡ Some (h x)
making h [] k x e = absurd cc
making h (y ∷ xs) zero x e = let same : y ≡ x = cc in ap (λ z. Some (h z)) same
making h (y ∷ xs) (suc k) x e = making h xs k x e

pub first_made : {A B : Type 0} (h : A → B) (P : B → Type 0) (xs : List A) (k : ℕ) → IsFirst P (map h xs) k → IsFirst (λ x. P (h x)) xs k
first_made h P xs k f =
    let x = made_at h xs k f.item f.at in
    record { item = x.0; at = x.1; is = subst P (sym x.2) f.is; before = λ j y lt e p. f.before j (h y) lt (making h xs j y e) p }

-- ---- places of names

name_same : (x : ℕ) (n : Option ℕ) → is_name x n ≡ true → n ≡ Some x
name_same x None e = absurd cc
name_same x (Some y) e = ap Some (sym (eqb-true x y e))

name_other : (x : ℕ) (n : Option ℕ) → is_name x n ≡ false → n ≡ Some x → ⊥
name_other x n e is = let same : is_name x (Some x) ≡ false = ap (is_name x) (sym is) ∙ e in let self : nat_eq x x ≡ true = eq-eqb x x refl in absurd cc

place_if : (x : ℕ) (n : Option ℕ) (ns : List (Option ℕ)) (b : Bool) → is_name x n ≡ b → IfSome (place_of ns x) (IsFirst (λ y. y ≡ Some x) ns) → IfSome (if b then Some 0 else option_map suc (place_of ns x)) (IsFirst (λ y. y ≡ Some x) (n ∷ ns))
place_if x n ns true e h = first_here (λ y. y ≡ Some x) n ns (name_same x n e)
place_if x n ns false e h = then_map (IsFirst (λ y. y ≡ Some x) ns) (IsFirst (λ y. y ≡ Some x) (n ∷ ns)) (place_of ns x) suc h (λ k f. first_later (λ y. y ≡ Some x) n ns k (name_other x n e) f)

pub place_first : (ns : List (Option ℕ)) (x : ℕ) → IfSome (place_of ns x) (IsFirst (λ y. y ≡ Some x) ns)
place_first [] x = tt
place_first (n ∷ ns) x = place_if x n ns (is_name x n) refl (place_first ns x)

-- the same of a list in which each item has a name
pub named_first : {A : Type 0} (name : A → ℕ) (xs : List A) (x : ℕ) → IfSome (place_of (map (λ a. Some (name a)) xs) x) (IsFirst (λ a. name a ≡ x) xs)
named_first name xs x =
    to (place_of (map (λ a. Some (name a)) xs) x) (place_first (map (λ a. Some (name a)) xs) x)
  where
    to : (o : Option ℕ) → IfSome o (IsFirst (λ y. y ≡ Some x) (map (λ a. Some (name a)) xs)) → IfSome o (IsFirst (λ a. name a ≡ x) xs)
    to None h = tt
    to (Some k) h = first_by (λ a. Some (name a) ≡ Some x) (λ a. name a ≡ x) xs k (λ a e. cc) (λ a e. ap Some e) (first_made (λ a. Some (name a)) (λ y. y ≡ Some x) xs k h)

-- ---- what is found

find_if : {A : Type 0} (p : A → Bool) (P : A → Type 0) (x : A) (xs : List A) (b : Bool) → p x ≡ b → ((a : A) → p a ≡ true → P a) → ((a : A) → P a → p a ≡ true)
    → IfSome (find p xs) (λ y. (k : ℕ) × (f : IsFirst P xs k) × (f.item ≡ y)) → IfSome (cond b (Some x) (find p xs)) (λ y. (k : ℕ) × (f : IsFirst P (x ∷ xs) k) × (f.item ≡ y))
unfolding first_here first_later
find_if p P x xs true e to from h = (0, first_here P x xs (to x e), refl)
find_if p P x xs false e to from h = later (find p xs) h
  where
    later : (o : Option _) → IfSome o (λ y. (k : ℕ) × (f : IsFirst P xs k) × (f.item ≡ y)) → IfSome o (λ y. (k : ℕ) × (f : IsFirst P (x ∷ xs) k) × (f.item ≡ y))
    later None h = tt
    later (Some y) h = (suc h.0, first_later P x xs h.0 (λ q. let t : p x ≡ true = from x q in absurd cc) h.1, h.2)

pub find_first : {A : Type 0} (p : A → Bool) (P : A → Type 0) (xs : List A) → ((a : A) → p a ≡ true → P a) → ((a : A) → P a → p a ≡ true) → IfSome (find p xs) (λ y. (k : ℕ) × (f : IsFirst P xs k) × (f.item ≡ y))
find_first p P [] to from = tt
find_first p P (x ∷ xs) to from = find_if p P x xs (p x) refl to from (find_first p P xs to from)

-- the first of the items that passes, or else another
item_if : {X : Type 0} (p : X → Bool) (P : X → Type 0) (item : ℕ → Fixed) (i : ℕ) (x : X) (xs : List X) (other : Option Fixed) (Q : Fixed → Type 0) (b : Bool) → p x ≡ b → ((a : X) → p a ≡ true → P a) → ((a : X) → P a → p a ≡ true)
    → ((k : ℕ) → IsFirst P (x ∷ xs) k → Q (item (i + k)))
    → ((p x ≡ false → (k : ℕ) → IsFirst P xs k → Q (item ((i + 1) + k))) → p x ≡ false → IfSome (first_item p item (i + 1) xs other) Q)
    → IfSome (if b then Some (item i) else first_item p item (i + 1) xs other) Q
item_if p P item i x xs other Q true e to from h rest = let z : i + 0 ≡ i = omega arith in subst (λ n. Q (item n)) z (h 0 (first_here P x xs (to x e)))
item_if p P item i x xs other Q false e to from h rest =
    rest (λ e k f. let s : i + suc k ≡ (i + 1) + k = omega arith in subst (λ n. Q (item n)) s (h (suc k) (first_later P x xs k (λ q. let t : p x ≡ true = from x q in absurd cc) f))) e

none_here : {X : Type 0} (P : X → Type 0) (x : X) (xs : List X) → (P x → ⊥) → ((j : ℕ) (y : X) → slice_get xs j ≡ Some y → P y → ⊥) → (j : ℕ) (y : X) → slice_get (x ∷ xs) j ≡ Some y → P y → ⊥
none_here P x xs not rest zero y is q = let same : y ≡ x = cc in not (subst P same q)
none_here P x xs not rest (suc j) y is q = rest j y is q

pub item_first : {X : Type 0} (p : X → Bool) (P : X → Type 0) (item : ℕ → Fixed) (i : ℕ) (xs : List X) (other : Option Fixed) (Q : Fixed → Type 0) → ((a : X) → p a ≡ true → P a) → ((a : X) → P a → p a ≡ true)
    → ((k : ℕ) → IsFirst P xs k → Q (item (i + k))) → (((j : ℕ) (x : X) → slice_get xs j ≡ Some x → P x → ⊥) → IfSome other Q) → IfSome (first_item p item i xs other) Q
item_first p P item i [] other Q to from h g = g (λ j x e q. absurd cc)
item_first p P item i (x ∷ xs) other Q to from h g =
    item_if p P item i x xs other Q (p x) refl to from h
    (λ more e. item_first p P item (i + 1) xs other Q to from (more e) (λ rest. g (none_here P x xs (λ q. let t : p x ≡ true = from x q in absurd cc) rest)))
