-- Options one after another that are the same, and what holds of each item of a list.
use Rattle.std.proofs.Common.{◌≡◌, Bool, true, List, [], ◌∷◌, map, Option, Some, None, refl, ap, ◌∙◌}
use Rattle.std.specs.Prelude.{option_and_then}
use Rattle.std.specs.List.{AllByRecursion, list_all}
use Rattle.ir_rules.proofs.SameLemmas.{and_both}
use Rattle.ir_code.specs.Options.{every}

bind_on : {A B : Type 0} (a : Option A) (f g : A → Option B) → ((x : A) → f x ≡ g x) → option_and_then f a ≡ option_and_then g a
bind_on None f g h = refl
bind_on (Some x) f g h = h x

pub bind_same : {A B : Type 0} {a b : Option A} {f g : A → Option B} → a ≡ b → ((x : A) → f x ≡ g x) → option_and_then f a ≡ option_and_then g b
bind_same {a = a} {f = f} {g = g} e h = bind_on a f g h ∙ ap (option_and_then g) e

-- the same where only the rest differs
pub bind_then : {A B : Type 0} (a : Option A) {f g : A → Option B} → ((x : A) → f x ≡ g x) → option_and_then f a ≡ option_and_then g a
bind_then a {f = f} {g = g} h = bind_on a f g h

-- what each item gives, where the items are others that give the same
pub every_same : {X Y B : Type 0} (P : X → Type 0) (f : X → Option B) (g : Y → Option B) (h : X → Y) → ((x : X) → P x → f x ≡ g (h x)) → (xs : List X) → AllByRecursion P xs → every f xs ≡ every g (map h xs)
every_same P f g h e [] all = refl
every_same P f g h e (x ∷ xs) all = bind_same (e x all.0) (λ y. bind_same (every_same P f g h e xs all.1) (λ ys. refl))

pub map_same : {X Y B : Type 0} (P : X → Type 0) (f : X → B) (g : Y → B) (h : X → Y) → ((x : X) → P x → f x ≡ g (h x)) → (xs : List X) → AllByRecursion P xs → map f xs ≡ map g (map h xs)
map_same P f g h e [] all = refl
map_same P f g h e (x ∷ xs) all =
    let one : f x ≡ g (h x) = e x all.0 in
    let rest : map f xs ≡ map g (map h xs) = map_same P f g h e xs all.1 in
    cc

pub all_of : {X : Type 0} (p : X → Bool) (xs : List X) → list_all p xs ≡ true → AllByRecursion (λ x. p x ≡ true) xs
all_of p [] e = tt
all_of p (x ∷ xs) e = let s = and_both _ _ e in (s.0, all_of p xs s.1)

pub all_map : {X Y : Type 0} (P : Y → Type 0) (k : X → Y) (xs : List X) → AllByRecursion P (map k xs) → AllByRecursion (λ x. P (k x)) xs
all_map P k [] all = tt
all_map P k (x ∷ xs) all = (all.0, all_map P k xs all.1)

pub all_both : {X : Type 0} (P Q : X → Type 0) (xs : List X) → AllByRecursion P xs → AllByRecursion Q xs → AllByRecursion (λ x. P x × Q x) xs
all_both P Q [] a b = tt
all_both P Q (x ∷ xs) a b = ((a.0, b.0), all_both P Q xs a.1 b.1)

pub all_then : {X : Type 0} (P Q : X → Type 0) → ((x : X) → P x → Q x) → (xs : List X) → AllByRecursion P xs → AllByRecursion Q xs
all_then P Q h [] all = tt
all_then P Q h (x ∷ xs) all = (h x all.0, all_then P Q h xs all.1)
