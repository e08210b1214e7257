-- A step of reading bytes that are spelled by digits.
use Rattle.std.proofs.Common.{◌≡◌, ℕ, ◌-◌, ◌≤◌, true, false, eqb, List, [], ◌∷◌, ◌++◌, Some, length, get_or, take, drop, refl, sym, subst, ◌∙◌, arith}
use Rattle.std.proofs.lemmas.List.{take_rest}
use Rattle.std.proofs.lemmas.Bool.Decides.{Decides-eqb}
use Rattle.profile_lines.specs.Numbers.{hex_digit, lower_digit, byte_of, hex_bytes}
use Rattle.profile_lines.specs.Names.{is_name_byte, unquoted}
use Rattle.profile_lines.proofs.CutLemmas.{not_true}
use Rattle.profile_lines.proofs.FrontLemmas.{after, after_led}

pub pair_step : (front text : List ℕ) (b : ℕ) → 2 ≤ length text
    → byte_of (lower_digit (get_or text 0 0)) (lower_digit (get_or text 1 0)) ≡ Some b
    → after (front ++ b ∷ []) (hex_bytes (take (length text - 2) (drop 2 text))) ≡ after front (hex_bytes text)
pair_step front [] b l is = absurd (omega arith)
pair_step front (x ∷ []) b l is = absurd (omega arith)
pair_step front (x ∷ y ∷ xs) b l is = rw (take_rest (x ∷ y ∷ xs) 2, is) (after_led front b (hex_bytes xs))

-- the quote and the backslash do not stand for themselves
pub not_byte : (a b : ℕ) → is_name_byte b ≡ false → is_name_byte a ≡ true → eqb a b ≡ false
not_byte a b no_name name = not_true _ (λ e.
    let same : a ≡ b = (Decides-eqb a b).0 e in
    let both : false ≡ true = sym no_name ∙ subst (λ n. is_name_byte n ≡ true) same name in cc)

pub escape_step : (front text tail : List ℕ) (b : ℕ) → tail ≡ drop 1 text → 1 ≤ length text → 2 ≤ length tail → get_or text 0 0 ≡ 92
    → byte_of (hex_digit (get_or tail 0 0)) (hex_digit (get_or tail 1 0)) ≡ Some b
    → after (front ++ b ∷ []) (unquoted (take (length tail - 2) (drop 2 tail))) ≡ after front (unquoted text)
escape_step front [] tail b from l m first is = absurd (omega arith)
escape_step front (x ∷ xs) [] b from l m first is = absurd (omega arith)
escape_step front (x ∷ xs) (y ∷ []) b from l m first is = absurd (omega arith)
escape_step front (x ∷ xs) (y ∷ z ∷ zs) b from l m first is =
    let escaped : eqb x 92 ≡ true = (Decides-eqb x 92).1 first in
    rw (take_rest (y ∷ z ∷ zs) 2, ← from, escaped, is) (after_led front b (unquoted zs))

pub plain_step : (front text : List ℕ) → 1 ≤ length text → is_name_byte (get_or text 0 0) ≡ true
    → after (front ++ get_or text 0 0 ∷ []) (unquoted (take (length text - 1) (drop 1 text))) ≡ after front (unquoted text)
plain_step front [] l name = absurd (omega arith)
plain_step front (x ∷ []) l name =
    let other : eqb x 34 ≡ false = not_byte x 34 refl name in
    rw other refl
plain_step front (x ∷ y ∷ []) l name =
    rw name (after_led front x (unquoted (y ∷ [])))
plain_step front (x ∷ y ∷ z ∷ xs) l name =
    let other : eqb x 92 ≡ false = not_byte x 92 refl name in
    rw (take_rest (x ∷ y ∷ z ∷ xs) 1, other, name) (after_led front x (unquoted (y ∷ z ∷ xs)))
