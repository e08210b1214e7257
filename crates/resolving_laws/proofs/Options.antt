-- Options one after another, and what they give.
use Rattle.std.proofs.Common.{◌≡◌, ℕ, zero, suc, ◌+◌, Bool, true, false, List, [], ◌∷◌, ◌++◌, map, Option, Some, None, slice_get, refl, subst, arith, ◌⊎◌, inl, inr, if◌then◌else◌}
use Rattle.std.specs.Prelude.{IfSome, option_and_then, option_map, unwrap_or, fold, slice_index_or}
use Rattle.std.specs.Option.{option_map_or}
use Rattle.std.specs.List.{AllByRecursion, range_with_len}
use Rattle.ir_code.specs.Options.{every}
use Rattle.resolving_laws.specs.Looking.{Each}

-- what follows has its property, where it has it of each value that comes before
pub and_then : {A B : Type 0} (P : A → Type 0) (Q : B → Type 0) (x : Option A) (k : A → Option B) → IfSome x P → ((a : A) → P a → IfSome (k a) Q) → IfSome (option_and_then k x) Q
and_then P Q (Some a) k h g = g a h
and_then P Q None k h g = tt

pub then_map : {A B : Type 0} (P : A → Type 0) (Q : B → Type 0) (x : Option A) (k : A → B) → IfSome x P → ((a : A) → P a → Q (k a)) → IfSome (option_map k x) Q
then_map P Q (Some a) k h g = g a h
then_map P Q None k h g = tt

-- what there is, is what there is
pub itself : {A : Type 0} (x : Option A) → IfSome x (λ a. x ≡ Some a)
itself (Some a) = refl
itself None = tt

pub every_each : {A B : Type 0} (P : A → B → Type 0) (f : A → Option B) → ((a : A) → IfSome (f a) (P a)) → (xs : List A) → IfSome (every f xs) (Each P xs)
every_each P f h [] = tt
every_each P f h (x ∷ xs) = and_then (P x) (Each P (x ∷ xs)) (f x) _ (h x) (λ y p. and_then (Each P xs) (Each P (x ∷ xs)) (every f xs) _ (every_each P f h xs) (λ ys q. (p, q)))

-- a value, or what stands for none
pub or_else : {A : Type 0} (Q : A → Type 0) (x : Option A) (d : A) → IfSome x Q → (unwrap_or x d ≡ d) ⊎ Q (unwrap_or x d)
or_else Q (Some a) d h = inr h
or_else Q None d h = inl refl

pub some_has : {A : Type 0} (Q : A → Type 0) (x : Option A) (a : A) → IfSome x Q → x ≡ Some a → Q a
some_has Q x a h e = let P : Option _ → Type 0 = λ y. IfSome y Q in subst P e h

-- ---- tables

-- what stands in a table by number is what was computed for the number
pub tabled : {X : Type 0} (Q : X → Type 0) (f : ℕ → Option X) (a n k : ℕ) → ((j : ℕ) → j ≡ a + k → IfSome (f j) Q) → IfSome (slice_index_or (map f (range_with_len a n)) k None) Q
tabled Q f a zero k h = tt
tabled Q f a (suc n) zero h = h a (omega arith)
tabled Q f a (suc n) (suc k) h = tabled Q f (a + 1) n k (λ j e. h j (omega (arith, e)))

-- ---- all of a list

pub all_at : {A : Type 0} (P : A → Type 0) (xs : List A) (k : ℕ) (x : A) → AllByRecursion P xs → slice_get xs k ≡ Some x → P x
all_at P [] k x h e = absurd cc
all_at P (y ∷ ys) zero x h e = let s : y ≡ x = cc in subst P s h.0
all_at P (y ∷ ys) (suc k) x h e = all_at P ys k x h.1 e

pub all_append : {A : Type 0} (P : A → Type 0) (xs ys : List A) → AllByRecursion P xs → AllByRecursion P ys → AllByRecursion P (xs ++ ys)
all_append P [] ys h g = g
all_append P (x ∷ xs) ys h g = (h.0, all_append P xs ys h.1 g)

pub folded : {A B : Type 0} (P : B → Type 0) (f : B → A → B) → ((b : B) (a : A) → P b → P (f b a)) → (b : B) (xs : List A) → P b → P (fold f b xs)
folded P f h b [] p = p
folded P f h b (x ∷ xs) p = folded P f h (f b x) xs (h b x p)

pub one_of : {A : Type 0} (P : A → Type 0) (b : Bool) (x y : A) → P x → P y → P (if b then x else y)
one_of P true x y h k = h
one_of P false x y h k = k

pub map_or : {A B : Type 0} (Q : B → Type 0) (P : A → Type 0) (f : A → B) (x : Option A) (d : B) → IfSome x P → ((a : A) → P a → Q (f a)) → Q d → Q (option_map_or f x d)
map_or Q P f (Some a) d h g q = g a h
map_or Q P f None d h g q = q

pub weaken : {A : Type 0} (P Q : A → Type 0) (x : Option A) → IfSome x P → ((a : A) → P a → Q a) → IfSome x Q
weaken P Q (Some a) h g = g a h
weaken P Q None h g = tt
