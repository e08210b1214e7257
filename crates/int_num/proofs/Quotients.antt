-- Signed quotients.
use Rattle.std.proofs.Common.{ℕ, zero, suc, ◌-◌, ◌/◌, ◌^◌, ◌<◌, ◌≤◌, ◌≡◌, ◌⊎◌, inl, inr, Bool, true, false, not, ◌&&◌, refl, sym, ap, ◌∙◌, arith, eqb, FitsSigned, to_z, of_z}
use Rattle.std.specs.Prelude.{ℤ, pos, negsuc, neg_ℤ, ◌≢◌, int_div}
use Rattle.std.specs.Int.{w64, CanDivide}
use Rattle.std.specs.Ordering.{int_eq}
use Rattle.std.proofs.Math.Nat.{div-le_self, div-lt_self}
use Rattle.std.proofs.lemmas.Int.{to_z-of_z}
use Rattle.std.proofs.lemmas.Bool.{cases_lt}
use Rattle.std.proofs.lemmas.Bool.Decides.{Decides-eqb, Decides-int_eq}
use Rattle.int_num.specs.Integer.{IsInteger, Integer, signed}
use Rattle.int_num.specs.Operations.{least, divides}
use Rattle.int_num.proofs.Signs.{least_by_bits, minus_one_by_bits, nonzero, signed_fits, least_64}

-- the test on the bits
pub divides_by_bits : (a b : Integer) → a.width ≡ b.width → IsInteger a → IsInteger b → divides a b ≡ (not (eqb b.bits 0) && not (eqb a.bits (2 ^ (a.width - 1)) && eqb b.bits (2 ^ a.width - 1)))
unfolding divides
divides_by_bits a b e i j =
    let s = least_by_bits a i in
    let t : int_eq (signed b) (neg_ℤ (pos 1)) ≡ eqb b.bits (2 ^ a.width - 1) = minus_one_by_bits b j ∙ ap (λ k. eqb b.bits (2 ^ k - 1)) (sym e) in
    cc

negated : (r : ℕ) → r ≤ 9223372036854775808 → FitsSigned w64 (neg_ℤ (pos r))
negated zero h = record { sfits = omega arith }
negated (suc r) h = record { sfits = omega arith }

halved : (a b : ℕ) → 0 < b → suc a / suc b ≤ a
halved a b h = let d = div-lt_self {n = suc a} {k = suc b} (omega arith) (omega arith) in omega arith

quotient_fits : (x y : ℤ) → FitsSigned w64 x → ((x ≡ negsuc 9223372036854775807) × (y ≡ negsuc 0) → ⊥) → FitsSigned w64 (int_div x y)
quotient_fits (pos a) (pos b) f n = let g : a < 9223372036854775808 = f.sfits in let d = div-le_self a b in record { sfits = omega arith }
quotient_fits (pos a) (negsuc b) f n = let g : a < 9223372036854775808 = f.sfits in let d = div-le_self a (suc b) in negated (a / suc b) (omega arith)
quotient_fits (negsuc a) (pos b) f n = let g : a < 9223372036854775808 = f.sfits in let d = div-le_self (suc a) b in negated (suc a / b) (omega arith)
quotient_fits (negsuc a) (negsuc zero) f n = go (cases_lt a 9223372036854775807)
  where
    go : (a < 9223372036854775807) ⊎ (9223372036854775807 ≤ a) → FitsSigned w64 (pos (suc a / suc zero))
    go (inl h) = let d = div-le_self (suc a) (suc zero) in record { sfits = omega arith }
    go (inr h) = let g : a < 9223372036854775808 = f.sfits in let e : a ≡ 9223372036854775807 = omega arith in absurd (n (ap negsuc e, refl))
quotient_fits (negsuc a) (negsuc (suc b)) f n = let g : a < 9223372036854775808 = f.sfits in let d = halved a (suc b) (omega arith) in record { sfits = omega arith }

positive : (y : ℤ) → FitsSigned w64 y → y ≢ pos 0 → 0 < of_z w64 y
positive (pos zero) f h = absurd (h refl)
positive (pos (suc n)) f h = omega arith
positive (negsuc n) f h = let g : n < 9223372036854775808 = f.sfits in omega arith

parts : (p q : Bool) → true ≡ (not p && not q) → (p ≡ false) × (q ≡ false)
parts true q e = absurd (cc)
parts false true e = absurd (cc)
parts false false e = (refl, refl)

neither : (p q : Bool) → (p && q) ≡ false → p ≡ true → q ≡ true → ⊥
neither p q e f g = cc

-- a signed division that has a quotient may be made in 64 bits
pub divides_fits : (a b : Integer) → IsInteger a → IsInteger b → true ≡ divides a b → (0 < of_z w64 (signed b)) × FitsSigned w64 (int_div (signed a) (signed b))
unfolding divides
divides_fits a b i j e =
    let p = parts (eqb b.bits 0) (int_eq (signed a) (least a.width) && int_eq (signed b) (neg_ℤ (pos 1))) e in
    let n : b.bits ≢ 0 = λ h. (let t = (Decides-eqb b.bits 0).1 h in let f = p.0 in cc) in
    let m : (signed a ≡ negsuc 9223372036854775807) × (signed b ≡ negsuc 0) → ⊥ =
    λ h. neither (int_eq (signed a) (least a.width)) (int_eq (signed b) (neg_ℤ (pos 1))) p.1 ((Decides-int_eq (signed a) (least a.width)).1 (least_64 a i h.0)) ((Decides-int_eq (signed b) (neg_ℤ (pos 1))).1 h.1) in
    (positive (signed b) (signed_fits b j) (nonzero b j n), quotient_fits (signed a) (signed b) (signed_fits a i) m)

-- the same, of the numbers as they are passed
pub may_divide : (x y : ℤ) → FitsSigned w64 x → FitsSigned w64 y → CanDivide w64 x y → (0 < of_z w64 y) × FitsSigned w64 (int_div (to_z w64 (of_z w64 x)) (to_z w64 (of_z w64 y)))
may_divide x y f g h = rw (to_z-of_z w64 x f, to_z-of_z w64 y g) h
