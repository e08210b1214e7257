-- The signed number of an integer.
use Rattle.std.proofs.Common.{◌-◌, ◌^◌, ◌<◌, ◌≤◌, ◌≡◌, ◌⊎◌, inl, inr, sym, subst, arith, eqb, FitsSigned}
use Rattle.std.specs.Prelude.{pos, negsuc, neg_ℤ, ◌≢◌}
use Rattle.std.specs.Int.{w64}
use Rattle.std.specs.Ordering.{int_eq}
use Rattle.std.proofs.lemmas.Int.{ints}
use Rattle.std.proofs.lemmas.Bool.{cases_lt}
use Rattle.std.proofs.lemmas.Bool.Decides.{nat_tests, Decides-int_eq, Decides-eqb, Decides-like, same_from_decides}
use Rattle.int_num.specs.Integer.{IsWidth, IsInteger, Integer, signed}
use Rattle.int_num.specs.Operations.{least}
use Rattle.int_num.proofs.Powers.{powers}

-- below half of 2^width it is the bits
pub signed_low : (a : Integer) → a.bits < 2 ^ (a.width - 1) → IsWidth a.width → signed a ≡ pos a.bits
signed_low a h w = let p = powers a.width w in grind (arith, nat_tests)

-- and from there on the bits less 2^width
pub signed_high : (a : Integer) → 2 ^ (a.width - 1) ≤ a.bits → IsInteger a → signed a ≡ negsuc (2 ^ a.width - 1 - a.bits)
signed_high a h i = let p = powers a.width i.width in let b = i.bits in grind (arith, ints, nat_tests)

is_least : (a : Integer) → IsInteger a → signed a ≡ least a.width → a.bits ≡ 2 ^ (a.width - 1)
is_least a i e = go (cases_lt a.bits (2 ^ (a.width - 1)))
  where
    go : (a.bits < 2 ^ (a.width - 1)) ⊎ (2 ^ (a.width - 1) ≤ a.bits) → a.bits ≡ 2 ^ (a.width - 1)
    go (inl h) = let s = signed_low a h i.width in let p = powers a.width i.width in omega (arith, ints)
    go (inr h) = let s = signed_high a h i in let p = powers a.width i.width in omega (arith, ints)

least_is : (a : Integer) → IsInteger a → a.bits ≡ 2 ^ (a.width - 1) → signed a ≡ least a.width
least_is a i e = let p = powers a.width i.width in let s = signed_high a (omega arith) i in omega (arith, ints)

pub least_by_bits : (a : Integer) → IsInteger a → int_eq (signed a) (least a.width) ≡ eqb a.bits (2 ^ (a.width - 1))
least_by_bits a i =
    same_from_decides (int_eq (signed a) (least a.width)) (eqb a.bits (2 ^ (a.width - 1)))
    (Decides-like (int_eq (signed a) (least a.width)) (is_least a i) (least_is a i) (Decides-int_eq (signed a) (least a.width)))
    (Decides-eqb a.bits (2 ^ (a.width - 1)))

is_minus_one : (a : Integer) → IsInteger a → signed a ≡ neg_ℤ (pos 1) → a.bits ≡ 2 ^ a.width - 1
is_minus_one a i e = go (cases_lt a.bits (2 ^ (a.width - 1)))
  where
    go : (a.bits < 2 ^ (a.width - 1)) ⊎ (2 ^ (a.width - 1) ≤ a.bits) → a.bits ≡ 2 ^ a.width - 1
    go (inl h) = let s = signed_low a h i.width in absurd (omega (arith, ints))
    go (inr h) = let s = signed_high a h i in let b = i.bits in omega (arith, ints)

minus_one_is : (a : Integer) → IsInteger a → a.bits ≡ 2 ^ a.width - 1 → signed a ≡ neg_ℤ (pos 1)
minus_one_is a i e = let p = powers a.width i.width in let s = signed_high a (omega arith) i in omega (arith, ints)

pub minus_one_by_bits : (a : Integer) → IsInteger a → int_eq (signed a) (neg_ℤ (pos 1)) ≡ eqb a.bits (2 ^ a.width - 1)
minus_one_by_bits a i =
    same_from_decides (int_eq (signed a) (neg_ℤ (pos 1))) (eqb a.bits (2 ^ a.width - 1))
    (Decides-like (int_eq (signed a) (neg_ℤ (pos 1))) (is_minus_one a i) (minus_one_is a i) (Decides-int_eq (signed a) (neg_ℤ (pos 1))))
    (Decides-eqb a.bits (2 ^ a.width - 1))

pub nonzero : (a : Integer) → IsInteger a → a.bits ≢ 0 → signed a ≢ pos 0
nonzero a i n e = go (cases_lt a.bits (2 ^ (a.width - 1)))
  where
    go : (a.bits < 2 ^ (a.width - 1)) ⊎ (2 ^ (a.width - 1) ≤ a.bits) → ⊥
    go (inl h) = let s = signed_low a h i.width in n (omega (arith, ints))
    go (inr h) = let s = signed_high a h i in omega (arith, ints)

-- the signed number fits 64 bits, and is -2^63 only at width 64
pub signed_fits : (a : Integer) → IsInteger a → FitsSigned w64 (signed a)
signed_fits a i = go (cases_lt a.bits (2 ^ (a.width - 1)))
  where
    go : (a.bits < 2 ^ (a.width - 1)) ⊎ (2 ^ (a.width - 1) ≤ a.bits) → FitsSigned w64 (signed a)
    go (inl h) = let p = powers a.width i.width in let f : FitsSigned w64 (pos a.bits) = record { sfits = omega arith } in subst (FitsSigned w64) (sym (signed_low a h i.width)) f
    go (inr h) = let p = powers a.width i.width in let b = i.bits in let f : FitsSigned w64 (negsuc (2 ^ a.width - 1 - a.bits)) = record { sfits = omega arith } in subst (FitsSigned w64) (sym (signed_high a h i)) f

-- the least number of 64 bits is the least of its width
pub least_64 : (a : Integer) → IsInteger a → signed a ≡ negsuc 9223372036854775807 → signed a ≡ least a.width
least_64 a i e = go (cases_lt a.bits (2 ^ (a.width - 1)))
  where
    go : (a.bits < 2 ^ (a.width - 1)) ⊎ (2 ^ (a.width - 1) ≤ a.bits) → signed a ≡ least a.width
    go (inl h) = let s = signed_low a h i.width in absurd (omega (arith, ints))
    go (inr h) = let p = powers a.width i.width in let s = signed_high a h i in least_is a i (let b = i.bits in omega (arith, ints))
