-- Items that give something, as a loop goes on.
use Rattle.std.proofs.Common.{◌≡◌, ℕ, ◌+◌, ◌<◌, List, [], ◌∷◌, ◌++◌, length, take, get_or, Option, Some, None, refl, sym, ◌∙◌, ap, append_assoc}
use Rattle.std.specs.List.{filter_map, cons_option}
use Rattle.std.proofs.lemmas.List.{take_more}

cons_first : {A : Type 0} (o : Option A) (xs ys : List A) → cons_option o (xs ++ ys) ≡ cons_option o xs ++ ys
cons_first None xs ys = refl
cons_first (Some x) xs ys = refl

filter_map-append : {A B : Type 0} (f : A → Option B) (xs ys : List A) → filter_map f (xs ++ ys) ≡ filter_map f xs ++ filter_map f ys
filter_map-append f [] ys = refl
filter_map-append f (x ∷ xs) ys = ap (cons_option (f x)) (filter_map-append f xs ys) ∙ cons_first (f x) (filter_map f xs) (filter_map f ys)

pub filter_more : {A B : Type 0} (f : A → Option B) (xs : List A) (i : ℕ) (e : A) (old done done' : List B) → i < length xs → done ≡ old ++ filter_map f (take i xs) → done' ≡ done ++ cons_option (f (get_or xs i e)) [] → done' ≡ old ++ filter_map f (take (i + 1) xs)
filter_more f xs i e old done done' lt is more =
    more ∙ ap (λ l. l ++ cons_option (f (get_or xs i e)) []) is ∙ append_assoc old (filter_map f (take i xs)) _
    ∙ ap (λ l. old ++ l) (sym (ap (filter_map f) (take_more xs i e lt) ∙ filter_map-append f (take i xs) (get_or xs i e ∷ [])))
