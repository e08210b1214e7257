-- What a function defines, by numbers and written out.
use Rattle.std.proofs.Common.{◌≡◌, ℕ, ◌<◌, ◌+◌, List, [], ◌∷◌, ◌++◌, take, length, get_or, Option, Some, None, refl, sym, ap, ◌∙◌, append_assoc}
use Rattle.std.specs.List.{filter_map, cons_option}
use Rattle.std.specs.Option.{option_to_list}
use Rattle.std.proofs.lemmas.List.{take_more}
use Rattle.std.proofs.lemmas.List.Elements.{filter_map-append}

consed : {Y : Type 0} (o : Option Y) → cons_option o [] ≡ option_to_list o
consed None = refl
consed (Some y) = refl

pub filter_map_more : {X Y : Type 0} (h : X → Option Y) (xs : List X) (i : ℕ) (d : X) → i < length xs → filter_map h (take (i + 1) xs) ≡ filter_map h (take i xs) ++ option_to_list (h (get_or xs i d))
filter_map_more h xs i d lt = ap (filter_map h) (take_more xs i d lt) ∙ filter_map-append h (take i xs) (get_or xs i d ∷ []) ∙ ap (λ l. filter_map h (take i xs) ++ l) (consed (h (get_or xs i d)))

-- one more item behind those before the loop
pub pushed : {X Y : Type 0} (h : X → Option Y) (first all more : List Y) (xs : List X) (i : ℕ) (d : X) (o : Option Y) → i < length xs → all ≡ first ++ filter_map h (take i xs) → o ≡ h (get_or xs i d) → more ≡ all ++ option_to_list o
    → more ≡ first ++ filter_map h (take (i + 1) xs)
pushed h first all more xs i d o lt so is added =
    added ∙ (rw (so, is) refl) ∙ append_assoc first (filter_map h (take i xs)) (option_to_list (h (get_or xs i d))) ∙ ap (λ l. first ++ l) (sym (filter_map_more h xs i d lt))
