-- Numbers that are printed, read back.
use Rattle.std.proofs.Common.{◌≡◌, ℕ, ◌+◌, ◌-◌, ◌^◌, ◌<◌, ◌≤◌, suc, true, false, List, ◌∷◌, Option, Some, None, refl, sym, ap, ◌∙◌, arith, inl, inr}
use Rattle.std.specs.Prelude.{not, ◌==◌, nat_le, nat_lt, if◌then◌else◌, ℤ, nat_abs, decimal, slice_index}
use Rattle.std.specs.Fmt.{signed_decimal}
use Rattle.std.proofs.lemmas.Bool.{cases_Bool, cases_lt}
use Rattle.std.proofs.lemmas.Bool.Decides.{nat_tests}
use Rattle.ir_lex.specs.declared.token.Cause.{Cause}
use Rattle.ir_lex.specs.declared.token.Cause.TheVariants as causes
use Rattle.ir_lex.specs.declared.token.Integer.{Integer as Written}
use Rattle.ir_lex.specs.Classes.{is_digit}
use Rattle.ir_lex.specs.Spelling.{number, digits_of, integer_of, integer_limit}
use Rattle.int_num.specs.Integer.{Integer, IsWidth, IsInteger, signed}
use Rattle.int_num.proofs.Powers.{powers}
use Rattle.int_num.proofs.Signs.{signed_low, signed_high}
use Rattle.ir_text.specs.Constants.{integer_in}
use Rattle.print_tokens.proofs.Decoding.{number_decimal}
use Rattle.print_values.proofs.Names.{first_digit}

-- ---- whole numbers

no_sign : (b : ℕ) → is_digit b ≡ true → (b == 45) ≡ false
unfolding is_digit
no_sign b e = grind (arith, nat_tests)

-- an integer without a sign
abbrev pub whole : ℕ → Written
whole n = record { negative = false; magnitude = n }

pub whole_back : (n : ℕ) → n < 10 ^ 64 → integer_of (decimal n) ≡ whole n
whole_back n lt = let h = no_sign (slice_index (decimal n) 0) (first_digit n lt) in rw h (ap whole (number_decimal n lt))

-- the number of a token is below 2^128
pub below_limit : (text : List ℕ) → integer_limit text ≡ None → number (digits_of text) < 2 ^ 128
below_limit text e =
    elim (cases_Bool (nat_le (2 ^ 128) (number (digits_of text)))) [
      | inl h ↦ let clash : some ≡ None = rw h at e in absurd cc
      | inr h ↦ grind (arith, nat_tests)
    ]
  where
    some : Option Cause
    some = Some causes.Number

-- ---- integers of a width

-- an integer with a sign
abbrev pub less : ℕ → Written
less n = record { negative = true; magnitude = n }

pub less_back : (n : ℕ) → n < 10 ^ 64 → integer_of (45 ∷ decimal n) ≡ less n
less_back n lt = ap less (number_decimal n lt)

pub record OfWidth (w : ℕ) (n : Integer) : Type 0 where
  pub is : n ≡ record { width = w; bits = n.bits }
  pub bits : n.bits < 2 ^ w

module _ (w : ℕ) (width : IsWidth w) where
  in_positive : (m : Written) (n : Integer) → (if nat_lt m.magnitude (2 ^ w) then Some (record { width = w; bits = m.magnitude }) else None) ≡ Some n → OfWidth w n
  in_positive m n e =
      elim (cases_Bool (nat_lt m.magnitude (2 ^ w))) [
        | inl h ↦ let f : Some (record { width = w; bits = m.magnitude }) ≡ Some n = rw h at e in let g : record { width = w; bits = m.magnitude } ≡ n = cc in
            let lt : m.magnitude < 2 ^ w = grind (arith, nat_tests) in let b : m.magnitude ≡ n.bits = ap (λ (i : Integer). i.bits) g in
            record { is = sym g ∙ ap (λ (k : ℕ). record { width = w; bits = k }) b; bits = omega arith }
        | inr h ↦ let f : nothing ≡ Some n = rw h at e in absurd cc
      ]
    where
      nothing : Option Integer
      nothing = None

  in_negative : (m : Written) (n : Integer) → not (m.magnitude == 0) ≡ true → (if nat_le m.magnitude (2 ^ (w - 1)) then Some (record { width = w; bits = 2 ^ w - m.magnitude }) else None) ≡ Some n → OfWidth w n
  in_negative m n some e =
      elim (cases_Bool (nat_le m.magnitude (2 ^ (w - 1)))) [
        | inl h ↦ let f : Some (record { width = w; bits = 2 ^ w - m.magnitude }) ≡ Some n = rw h at e in let g : record { width = w; bits = 2 ^ w - m.magnitude } ≡ n = cc in
            let p = powers w width in
            let lt : 0 < m.magnitude = grind (arith, nat_tests) in let b : 2 ^ w - m.magnitude ≡ n.bits = ap (λ (i : Integer). i.bits) g in
            record { is = sym g ∙ ap (λ (k : ℕ). record { width = w; bits = k }) b; bits = omega arith }
        | inr h ↦ let f : nothing ≡ Some n = rw h at e in absurd cc
      ]
    where
      nothing : Option Integer
      nothing = None

  -- an integer that a token spells has the width, and its bits
  pub in_width : (m : Written) (n : Integer) → integer_in w m ≡ Some n → OfWidth w n
  unfolding integer_in
  in_width m n e =
      elim (cases_Bool (not (m.magnitude == 0))) [
        | inl some ↦ elim (cases_Bool m.negative) [
          | inl minus ↦ in_negative m n some (rw (minus, some) at e)
          | inr plus ↦ in_positive m n (rw plus at e)
        ]
        | inr none ↦ elim (cases_Bool m.negative) [
          | inl minus ↦ in_positive m n (rw (minus, none) at e)
          | inr plus ↦ in_positive m n (rw plus at e)
        ]
      ]

  read_whole : (b : ℕ) → b < 2 ^ w → integer_in w (whole b) ≡ Some (record { width = w; bits = b })
  unfolding integer_in
  read_whole b lt = let h : nat_lt b (2 ^ w) ≡ true = grind (arith, nat_tests) in rw h refl

  read_less : (b k : ℕ) → b < 2 ^ w → 2 ^ (w - 1) ≤ b → b + k ≡ 2 ^ w → integer_in w (less k) ≡ Some (record { width = w; bits = b })
  unfolding integer_in
  read_less b k lt high e =
      let p = powers w width in
      let some : (k == 0) ≡ false = grind (arith, nat_tests) in
      let few : k ≤ 2 ^ (w - 1) = omega arith in
      let fits : nat_le k (2 ^ (w - 1)) ≡ true = grind (arith, nat_tests) in
      let same : 2 ^ w - k ≡ b = omega arith in
      rw (some, fits, same) refl

  size : (b : ℕ) → b < 2 ^ w → IsInteger (record { width = w; bits = b })
  size b lt = record { width = width; bits = lt }

  back_low : (b : ℕ) → b < 2 ^ w → b < 2 ^ (w - 1) → integer_in w (integer_of (signed_decimal (signed (record { width = w; bits = b })))) ≡ Some (record { width = w; bits = b })
  back_low b lt low =
      let p = powers w width in
      ap (λ (z : ℤ). integer_in w (integer_of (signed_decimal z))) (signed_low (record { width = w; bits = b }) low width) ∙ ap (integer_in w) (whole_back b (omega arith)) ∙ read_whole b lt

  back_high : (b : ℕ) → b < 2 ^ w → 2 ^ (w - 1) ≤ b → integer_in w (integer_of (signed_decimal (signed (record { width = w; bits = b })))) ≡ Some (record { width = w; bits = b })
  back_high b lt high =
      let p = powers w width in
      ap (λ (z : ℤ). integer_in w (integer_of (signed_decimal z))) (signed_high (record { width = w; bits = b }) high (size b lt))
      ∙ ap (integer_in w) (less_back (suc (2 ^ w - 1 - b)) (omega arith)) ∙ read_less b (suc (2 ^ w - 1 - b)) lt high (omega arith)

  -- what is printed of an integer is that integer, at its width
  pub integer_back : (b : ℕ) → b < 2 ^ w → integer_in w (integer_of (signed_decimal (signed (record { width = w; bits = b })))) ≡ Some (record { width = w; bits = b })
  integer_back b lt =
      elim (cases_lt b (2 ^ (w - 1))) [
        | inl low ↦ back_low b lt low
        | inr high ↦ back_high b lt high
      ]

  pub integer_fits : (b : ℕ) → b < 2 ^ w → nat_abs (signed (record { width = w; bits = b })) < 2 ^ 128
  integer_fits b lt =
      let p = powers w width in
      elim (cases_lt b (2 ^ (w - 1))) [
        | inl low ↦ let e : nat_abs (signed (record { width = w; bits = b })) ≡ b = ap nat_abs (signed_low (record { width = w; bits = b }) low width) in omega arith
        | inr high ↦ let e : nat_abs (signed (record { width = w; bits = b })) ≡ suc (2 ^ w - 1 - b) = ap nat_abs (signed_high (record { width = w; bits = b }) high (size b lt)) in omega arith
      ]
