-- What a predicate holds of is the stretch of its arc.
use Rattle.std.proofs.Common.{ℕ, ◌+◌, ◌-◌, ◌%◌, ◌^◌, ◌<◌, ◌≤◌, ◌≡◌, ◌⊎◌, inl, inr, sym, ap, subst, ◌∙◌, arith}
use Rattle.std.specs.Prelude.{pos, ◌-ℤ◌, nat_lt, nat_le, int_lt, int_le}
use Rattle.std.proofs.Math.Nat.{mod-lt}
use Rattle.std.proofs.Math.Pow.{pow_pos}
use Rattle.std.proofs.lemmas.Int.{ints}
use Rattle.std.proofs.lemmas.Bool.{cases_lt}
use Rattle.std.proofs.lemmas.Bool.Decides.{nat_tests}
use Rattle.int_num.specs.Integer.{Integer, IsInteger, signed}
use Rattle.int_num.specs.Operations.{compare}
use Rattle.int_num.specs.declared.ops.Pred.{Pred}
use Rattle.int_num.specs.declared.ops.Pred.TheVariants.{Eq, Ne, Ugt, Uge, Ult, Ule, Sgt, Sge, Slt, Sle}
use Rattle.int_num.proofs.Powers.{powers}
use Rattle.int_num.proofs.Signs.{signed_low, signed_high}
use Rattle.turn_count.specs.Arcs.{holding, half, signed_place}
use Rattle.turn_count.specs.declared.arc.Arc.{Arc}
use Rattle.turn_count.proofs.Circles.{Lapped, lap, from_zero, behind_ge, behind_gt, behind_eq, behind_ne, turned_ge, turned_gt}

-- the place among the signed numbers is so far from the least
signed_by_place : (x : Integer) → IsInteger x → signed x ≡ pos (signed_place x) -ℤ pos (half x)
signed_by_place x i = go (cases_lt x.bits (half x)) (lap (x.bits + half x) (2 ^ x.width) (let p = powers x.width i.width in let b = i.bits in omega arith))
  where
    go : (x.bits < half x) ⊎ (half x ≤ x.bits) → Lapped (x.bits + half x) (2 ^ x.width) → signed x ≡ pos (signed_place x) -ℤ pos (half x)
    go (inl l) (inl q) = let s = signed_low x l i.width in rw (q.1) (s ∙ omega (arith, ints))
    go (inl l) (inr q) = let p = powers x.width i.width in let g = q.0 in absurd (omega arith)
    go (inr l) (inl q) = let p = powers x.width i.width in let g = q.0 in absurd (omega arith)
    go (inr l) (inr q) = let p = powers x.width i.width in let b = i.bits in let s = signed_high x l i in rw (q.1) (s ∙ omega (arith, ints))

apart_lt : (a b h : ℕ) → int_lt (pos a -ℤ pos h) (pos b -ℤ pos h) ≡ nat_lt a b
apart_lt a b h = grind (arith, ints, nat_tests)

apart_le : (a b h : ℕ) → int_le (pos a -ℤ pos h) (pos b -ℤ pos h) ≡ nat_le a b
apart_le a b h = grind (arith, ints, nat_tests)

le_lt : (a b : ℕ) → nat_le a b ≡ nat_lt a (b + 1)
le_lt a b = grind (arith, nat_tests)

-- two integers of one width
module _ (x b : Integer) (ix : IsInteger x) (ib : IsInteger b) (e : x.width ≡ b.width) where
  -- the place of x
  px : ℕ
  px = (x.bits + half b) % 2 ^ b.width

  x_below : x.bits < 2 ^ b.width
  x_below = rw (← e) ix.bits

  px_below : px < 2 ^ b.width
  unfolding px
  px_below = mod-lt (x.bits + half b) (pow_pos b.width)

  b_below : signed_place b < 2 ^ b.width
  b_below = mod-lt (b.bits + half b) (pow_pos b.width)

  place_is : signed_place x ≡ px
  unfolding px
  place_is = ap (λ w. (x.bits + 2 ^ (w - 1)) % 2 ^ w) e

  signed_is : signed x ≡ pos px -ℤ pos (half b)
  signed_is = signed_by_place x ix ∙ (ap (λ p. pos p -ℤ pos (half x)) place_is ∙ ap (λ w. pos px -ℤ pos (2 ^ (w - 1))) e)

  from_least : px ≡ (x.bits + (2 ^ b.width - half b)) % 2 ^ b.width
  unfolding px
  from_least = let p = powers b.width ib.width in let h : half b ≡ 2 ^ b.width - half b = omega arith in ap (λ n. (x.bits + n) % 2 ^ b.width) h

  half_most : half b ≤ 2 ^ b.width
  half_most = let p = powers b.width ib.width in omega arith

  pub slt : int_lt (signed x) (signed b) ≡ nat_lt ((x.bits + (2 ^ b.width - half b)) % 2 ^ b.width) (signed_place b)
  slt = rw (signed_is, signed_by_place b ib) (apart_lt px (signed_place b) (half b) ∙ ap (λ p. nat_lt p (signed_place b)) from_least)

  pub sle : int_le (signed x) (signed b) ≡ nat_lt ((x.bits + (2 ^ b.width - half b)) % 2 ^ b.width) (signed_place b + 1)
  sle = rw (signed_is, signed_by_place b ib) (apart_le px (signed_place b) (half b) ∙ (le_lt px (signed_place b) ∙ ap (λ p. nat_lt p (signed_place b + 1)) from_least))

  pub sge : int_le (signed b) (signed x) ≡ nat_lt ((x.bits + (2 ^ b.width - b.bits)) % 2 ^ b.width) (2 ^ b.width - signed_place b)
  unfolding px
  sge =
      rw (signed_is, signed_by_place b ib) (apart_le (signed_place b) px (half b) ∙ (behind_ge (2 ^ b.width) px (signed_place b) px_below b_below
      ∙ ap (λ p. nat_lt p (2 ^ b.width - signed_place b)) (sym (turned_ge (2 ^ b.width) (half b) x.bits b.bits x_below ib.bits half_most))))

  pub sgt : int_lt (signed b) (signed x) ≡ nat_lt ((x.bits + (2 ^ b.width - (b.bits + 1))) % 2 ^ b.width) (2 ^ b.width - 1 - signed_place b)
  unfolding px
  sgt =
      rw (signed_is, signed_by_place b ib) (apart_lt (signed_place b) px (half b) ∙ (behind_gt (2 ^ b.width) px (signed_place b) px_below b_below
      ∙ ap (λ p. nat_lt p (2 ^ b.width - 1 - signed_place b)) (sym (turned_gt (2 ^ b.width) (half b) x.bits b.bits x_below ib.bits half_most))))

-- the integer stands on the stretch where the predicate holds of it
pub holding_law : (pred : Pred) (x b : Integer) → IsInteger x → IsInteger b → x.width ≡ b.width → compare pred x b ≡ nat_lt ((x.bits + (2 ^ b.width - (holding pred b).first)) % 2 ^ b.width) (holding pred b).length
unfolding compare holding
holding_law Eq x b ix ib e = behind_eq (2 ^ b.width) x.bits b.bits (x_below x b ix ib e) ib.bits
holding_law Ne x b ix ib e = behind_ne (2 ^ b.width) x.bits b.bits (x_below x b ix ib e) ib.bits
holding_law Ugt x b ix ib e = behind_gt (2 ^ b.width) x.bits b.bits (x_below x b ix ib e) ib.bits
holding_law Uge x b ix ib e = behind_ge (2 ^ b.width) x.bits b.bits (x_below x b ix ib e) ib.bits
holding_law Ult x b ix ib e = ap (λ n. nat_lt n b.bits) (sym (from_zero (2 ^ b.width) x.bits (x_below x b ix ib e)))
holding_law Ule x b ix ib e = le_lt x.bits b.bits ∙ ap (λ n. nat_lt n (b.bits + 1)) (sym (from_zero (2 ^ b.width) x.bits (x_below x b ix ib e)))
holding_law Sgt x b ix ib e = sgt x b ix ib e
holding_law Sge x b ix ib e = sge x b ix ib e
holding_law Slt x b ix ib e = slt x b ix ib e
holding_law Sle x b ix ib e = sle x b ix ib e

-- the stretch is one of the circle
pub record Fits (whole : ℕ) (arc : Arc) : Type 0 where
  pub first : arc.first ≤ whole
  pub length : arc.length ≤ whole

-- all the numbers that are compared are of the width
least_fits : (b : Integer) → IsInteger b → (half b ≤ 2 ^ b.width) × (signed_place b < 2 ^ b.width)
least_fits b ib = let p = powers b.width ib.width in (omega arith, mod-lt (b.bits + half b) (pow_pos b.width))

pub holding_fits : (pred : Pred) (b : Integer) → IsInteger b → Fits (2 ^ b.width) (holding pred b)
unfolding holding
holding_fits Eq b i = let h = i.bits in record { first = omega arith; length = omega arith }
holding_fits Ne b i = let h = i.bits in record { first = omega arith; length = omega arith }
holding_fits Ugt b i = let h = i.bits in record { first = omega arith; length = omega arith }
holding_fits Uge b i = let h = i.bits in record { first = omega arith; length = omega arith }
holding_fits Ult b i = let h = i.bits in record { first = omega arith; length = omega arith }
holding_fits Ule b i = let h = i.bits in record { first = omega arith; length = omega arith }
holding_fits Sgt b i = let h = i.bits in let l = least_fits b i in record { first = omega arith; length = omega arith }
holding_fits Sge b i = let h = i.bits in let l = least_fits b i in record { first = omega arith; length = omega arith }
holding_fits Slt b i = let l = least_fits b i in record { first = l.0; length = let q = l.1 in omega arith }
holding_fits Sle b i = let l = least_fits b i in record { first = l.0; length = let q = l.1 in omega arith }

-- the same as it is made
pub made_fits : (whole width : ℕ) (arc : Arc) (pred : Pred) (b : Integer) → IsInteger b → b.width ≡ width → whole ≡ 2 ^ width → arc ≡ holding pred b → Fits whole arc
made_fits whole width arc pred b i w e a = rw (e, a) (subst (λ k. Fits (2 ^ k) (holding pred b)) w (holding_fits pred b i))
