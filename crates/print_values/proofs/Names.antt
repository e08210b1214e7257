-- Names: those of tokens fit, and what is printed of one spells it.
use Rattle.std.proofs.Common.{◌≡◌, ℕ, ◌-◌, ◌^◌, ◌<◌, ◌≤◌, zero, suc, Bool, true, false, List, [], ◌∷◌, ◌++◌, length, take, drop, Option, Some, None, refl, sym, ap, subst, ◌∙◌, arith, inl, inr, length-append}
use Rattle.std.specs.Prelude.{◌&&◌, ◌==◌, nat_le, nat_lt, if◌then◌else◌, decimal, slice_index}
use Rattle.std.proofs.lemmas.Bool.{cases_Bool, and_parts}
use Rattle.std.proofs.lemmas.Bool.Decides.{nat_tests}
use Rattle.std.proofs.lemmas.List.{take_at}
use Rattle.std.proofs.lemmas.List.Elements.{All-nil, All-cons, All-head, All-tail, All-take, All-drop}
use Rattle.pv_base.specs.declared.name.Name.{Name}
use Rattle.pv_base.specs.declared.name.Name.TheVariants.{Named, Numbered}
use Rattle.ir_lex.specs.declared.token.TokenKind.{TokenKind}
use Rattle.ir_lex.specs.declared.token.TokenKind.TheVariants as kind
use Rattle.ir_lex.specs.declared.token.Form.TheVariants as form
use Rattle.ir_lex.specs.declared.token.Cause.{Cause}
use Rattle.ir_lex.specs.declared.token.Cause.TheVariants as cause
use Rattle.ir_lex.specs.Classes.{is_digit, is_letter, is_hex, hex_value, is_name_start}
use Rattle.ir_lex.specs.Cut.{Each}
use Rattle.ir_lex.specs.Spelling.{number, written, meant, decoded_from, decoded, unquoted, name_part, name_of, longer, name_limit, limit_of, IsNameKind}
use Rattle.ir_printer.specs.Pieces.{quoted, is_plain, name_text}
use Rattle.print_tokens.specs.Standing.{AreBytes, NameFits}
use Rattle.print_tokens.proofs.Decoding.{decoded_quoted, number_decimal, run_decimal}
use Rattle.print_values.specs.Laws.{NamesFit, NamesReadBack}

-- ---- digits

-- what is printed of a number begins with a digit
pub first_digit : (n : ℕ) → n < 10 ^ 64 → is_digit (slice_index (decimal n) 0) ≡ true
first_digit n lt = let r = run_decimal n lt in ap (λ (ds : List ℕ). is_digit (slice_index ds 0)) r.is ∙ r.begins

-- and is of digits alone
pub each_digit : (n : ℕ) → n < 10 ^ 64 → Each is_digit (decimal n)
each_digit n lt = let r = run_decimal n lt in subst (Each is_digit) (sym r.is) (r.begins, r.goes_on)

-- ---- names are read back

no_digit : (b : ℕ) → is_name_start b ≡ true → (is_digit b ≡ false) × ((b == 34) ≡ false)
unfolding is_name_start is_letter is_digit
no_digit b e = (grind (arith, nat_tests), grind (arith, nat_tests))

plain_back : (bs : List ℕ) → is_plain bs ≡ true → name_of bs ≡ Named bs
unfolding name_of
plain_back [] e = absurd cc
plain_back (b ∷ bs) e = let h = no_digit b (and_parts (is_name_start b) _ e).0 in rw (h.0, h.1) refl

quoted_back : (bs : List ℕ) → AreBytes bs → name_of (quoted bs) ≡ Named bs
unfolding name_of is_digit
quoted_back bs all = ap Named (decoded_quoted bs all)

digits_back : (n : ℕ) → n < 10 ^ 64 → name_of (decimal n) ≡ Numbered n
unfolding name_of
digits_back n lt = rw (first_digit n lt) (ap Numbered (number_decimal n lt))

pub name_back : (name : Name) → NameFits name → name_of (name_text name) ≡ name
unfolding name_text
name_back (Named bs) fits =
    elim (cases_Bool (is_plain bs)) [
      | inl e ↦ rw e (plain_back bs e)
      | inr e ↦ rw e (quoted_back bs fits.0)
    ]
name_back (Numbered n) fits = digits_back n (omega arith)

pub names_back : NamesReadBack
names_back name fits = record {
  global = λ line. name_back name fits;
  local = λ line. name_back name fits;
  label = λ line. ap name_of (take_at (name_text name) (58 ∷ []) (length (name_text name ++ 58 ∷ []) - 1) (omega (arith, length-append (name_text name) (58 ∷ [])))) ∙ name_back name fits;
}

-- ---- names of tokens fit

hex_small : (b : ℕ) → is_hex b ≡ true → hex_value b < 16
unfolding is_hex hex_value is_digit
hex_small b e = grind (arith, nat_tests)

three : (a b c d : Bool) → ((if a && b then 2 else (if a && c && d then 3 else 1)) == 3) ≡ true → (c ≡ true) × (d ≡ true)
three a b true true e = (refl, refl)
three true true c d e = absurd cc
three true false true false e = absurd cc
three true false false d e = absurd cc
three false b c d e = absurd cc

meant_small : (text : List ℕ) → slice_index text 0 < 256 → meant text < 256
unfolding meant written
meant_small text lt =
    elim (cases_Bool (written text == 3)) [
      | inl e ↦ let h = three (slice_index text 0 == 92) (slice_index text 1 == 92) (is_hex (slice_index text 1)) (is_hex (slice_index text 2)) e in
          let a = hex_small (slice_index text 1) h.0 in let b = hex_small (slice_index text 2) h.1 in rw e (omega arith)
      | inr e ↦ rw e lt
    ]

pub decoded_small : (text : List ℕ) (n : ℕ) → AreBytes text → AreBytes (decoded_from text n)
unfolding decoded_from
decoded_small [] n all = All-nil (λ b. b < 256)
decoded_small (b ∷ rest) (suc n) all = decoded_small rest n (All-tail (λ b. b < 256) b rest all)
decoded_small (b ∷ rest) zero all =
    All-cons (λ b. b < 256) (meant (b ∷ rest)) _ (meant_small (b ∷ rest) (All-head (λ b. b < 256) b rest all)) (decoded_small rest (written (b ∷ rest) - 1) (All-tail (λ b. b < 256) b rest all))

not_longer : (n : ℕ) → longer n ≡ None → n ≤ 4096
not_longer n e =
    elim (cases_Bool (nat_lt 4096 n)) [
      | inl h ↦ let clash : some ≡ None = rw h at e in absurd cc
      | inr h ↦ grind (arith, nat_tests)
    ]
  where
    some : Option Cause
    some = Some cause.TooLong

not_large : (n : ℕ) (o : Option Cause) → (if nat_le (2 ^ 63) n then Some cause.Number else o) ≡ None → n < 2 ^ 63
not_large n o e =
    elim (cases_Bool (nat_le (2 ^ 63) n)) [
      | inl h ↦ let clash : some ≡ None = rw h at e in absurd cc
      | inr h ↦ grind (arith, nat_tests)
    ]
  where
    some : Option Cause
    some = Some cause.Number

part_fits : (text : List ℕ) → name_limit text ≡ None → AreBytes text → NameFits (name_of text)
unfolding name_limit name_of
part_fits text e all =
    elim (cases_Bool (is_digit (slice_index text 0))) [
      | inl d ↦ rw d (not_large (number text) (longer (length text)) (rw d at e))
      | inr d ↦ elim (cases_Bool (slice_index text 0 == 34)) [
        | inl q ↦ rw (d, q) (decoded_small (unquoted text) 0 (All-take (λ b. b < 256) (length text - 2) (drop 1 text) (All-drop (λ b. b < 256) 1 text all)), not_longer (length (decoded (unquoted text))) (rw (d, q) at e))
        | inr q ↦ rw (d, q) (all, not_longer (length text) (rw (d, q) at e))
      ]
    ]

kind_fits : (k : TokenKind) (text : List ℕ) → limit_of (form.Token k) text ≡ None → AreBytes text → IsNameKind k → NameFits (name_of (name_part k text))
unfolding limit_of
kind_fits kind.GlobalName text e all is = part_fits (drop 1 text) e (All-drop (λ b. b < 256) 1 text all)
kind_fits kind.LocalName text e all is = part_fits (drop 1 text) e (All-drop (λ b. b < 256) 1 text all)
kind_fits kind.Label text e all is = part_fits (take (length text - 1) text) e (All-take (λ b. b < 256) (length text - 1) text all)
kind_fits kind.Integer text e all is = absurd is
kind_fits kind.Word text e all is = absurd is
kind_fits kind.Text text e all is = absurd is
kind_fits kind.Punct text e all is = absurd is

pub names_fit : NamesFit
names_fit t sound is = kind_fits t.kind t.text sound.limits sound.bytes is
