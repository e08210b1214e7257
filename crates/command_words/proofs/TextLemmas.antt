-- Which words are text.
use Rattle.std.proofs.Common.{arith, ◌≡◌, ◌<◌, ◌+◌, ◌&&◌, ℕ, Bool, true, false, List, [], ◌∷◌, length, take, get_or, zero, suc, refl, map, ◌++◌, Bor}
use Rattle.std.proofs.lemmas.List.{take_more, map-append}
use Rattle.std.proofs.lemmas.List.Folds.{list_all-append}
use Rattle.std.specs.Prelude.{IsUtf8}
use Rattle.std.specs.Str.{is_utf8}
use Rattle.std.proofs.lemmas.Str.{IsUtf8-from_is_utf8, is_utf8-from_IsUtf8}
use Rattle.pv_base.specs.Outside.{Text}
use Rattle.command_words.specs.Texts.{is_text, are_texts}

pub text_if_utf8 : (b : Text) → IsUtf8 b → is_text b ≡ true
unfolding is_text
text_if_utf8 b h = is_utf8-from_IsUtf8 b h

false_of : (b : Bool) → ¬ (b ≡ true) → b ≡ false
false_of true h = absurd (h refl)
false_of false h = refl

pub no_text_if_not_utf8 : (b : Text) → ¬ IsUtf8 b → is_text b ≡ false
unfolding is_text
no_text_if_not_utf8 b h = false_of (is_utf8 b) (λ t. h (IsUtf8-from_is_utf8 b t))

pub one_is_no_text : (i : ℕ) (ws : List Text) (d : Text) → i < length ws → is_text (get_or ws i d) ≡ false → are_texts ws ≡ false
one_is_no_text i [] d h e = absurd (omega arith)
one_is_no_text zero (w ∷ ws) d h e = rw e refl
one_is_no_text (suc i) (w ∷ ws) d h e =
    elim (is_text w) as (λ b. b && are_texts ws ≡ false) [ true ↦ one_is_no_text i ws d (omega arith) e | false ↦ refl ]

pub one_more_text : (i : ℕ) (ws : List Text) (d : Text) → i < length ws → are_texts (take i ws) ≡ true → is_text (get_or ws i d) ≡ true
    → are_texts (take (i + 1) ws) ≡ true
one_more_text i ws d h all one = rw (take_more ws i d h, list_all-append, all, one) refl

pub one_more_now : (i : ℕ) (ws : List Text) (d : Text) (us : List (Bor Text)) (u : Bor Text) → i < length ws
    → map (λ s. s.now) us ≡ take i ws → u.now ≡ get_or ws i d → map (λ s. s.now) (us ++ u ∷ []) ≡ take (i + 1) ws
one_more_now i ws d us u h all one = rw (take_more ws i d h, map-append, all, one) refl
