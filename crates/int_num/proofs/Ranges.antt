-- The ranges of a width.
use Rattle.std.proofs.Common.{ℕ, zero, suc, ◌+◌, ◌-◌, ◌*◌, ◌^◌, ◌<◌, ◌≤◌, ◌≡◌, ◌⊎◌, inl, inr, true, not, refl, sym, ap, ◌∙◌, arith, leb, ltb, lit<, to_z, of_z, FitsSigned}
use Rattle.std.specs.Prelude.{ℤ, pos, negsuc, ◌+ℤ◌, ◌-ℤ◌, ◌*ℤ◌, neg_ℤ, ◌&&◌, int_le, int_lt, unsigned_abs}
use Rattle.std.specs.Int.{w64, w128}
use Rattle.std.proofs.lemmas.Int.{ints, to_z-of_z, fits_signed_mul}
use Rattle.std.proofs.lemmas.Bool.Decides.{nat_tests}
use Rattle.int_num.specs.Operations.{fits_signed, fits_unsigned}
use Rattle.std.proofs.Math.Pow.{pow_pos}
use Rattle.std.proofs.Math.Nat.{mul-lt-mul_of_pos_right, mul-le-mul_right, mul-pos}
use Rattle.std.proofs.lemmas.Nat.{pow-add}
use Rattle.std.proofs.lemmas.Bool.{cases_lt}

pub fits_unsigned_of : (width n : ℕ) → leb n (2 ^ width - 1) ≡ fits_unsigned width (pos n)
unfolding fits_unsigned
fits_unsigned_of width n = let e = pow_pos width in grind (arith, nat_tests)

-- a difference fits where it is not negative
pub fits_down : (width a b : ℕ) → a < 2 ^ width → leb b a ≡ fits_unsigned width (pos a -ℤ pos b)
unfolding fits_unsigned
fits_down width a b h = grind (arith, ints, nat_tests)

-- a 64-bit number is itself in 128 bits, and so are sums, differences and products of two
pub wide : (x : ℤ) → FitsSigned w64 x → to_z w128 (of_z w128 (to_z w64 (of_z w64 x))) ≡ x
wide x f = omega (arith, ints)

pub wide_sum : (x y : ℤ) → FitsSigned w64 x → FitsSigned w64 y → to_z w128 (of_z w128 (to_z w128 (of_z w128 (to_z w64 (of_z w64 x))) +ℤ to_z w128 (of_z w128 (to_z w64 (of_z w64 y))))) ≡ x +ℤ y
wide_sum x y f g = omega (arith, ints)

pub wide_difference : (x y : ℤ) → FitsSigned w64 x → FitsSigned w64 y → to_z w128 (of_z w128 (to_z w128 (of_z w128 (to_z w64 (of_z w64 x))) -ℤ to_z w128 (of_z w128 (to_z w64 (of_z w64 y))))) ≡ x -ℤ y
wide_difference x y f g = omega (arith, ints)

abs_most : (x : ℤ) → FitsSigned w64 x → unsigned_abs x ≤ 9223372036854775808
abs_most (pos n) f = let g : n < 9223372036854775808 = f.sfits in omega arith
abs_most (negsuc n) f = let g : n < 9223372036854775808 = f.sfits in omega arith

pub wide_product : (x y : ℤ) → FitsSigned w64 x → FitsSigned w64 y → to_z w128 (of_z w128 (to_z w128 (of_z w128 (to_z w64 (of_z w64 x))) *ℤ to_z w128 (of_z w128 (to_z w64 (of_z w64 y))))) ≡ x *ℤ y
wide_product x y f g =
    rw (wide x f, wide y g) (to_z-of_z w128 (x *ℤ y) (fits_signed_mul w128 x y 9223372036854775808 9223372036854775808 (abs_most x f) (abs_most y g) (lit< tt)))

-- to scale both sides by a positive number keeps their order
scaled_lt : (n h p : ℕ) → 0 < p → ltb n h ≡ ltb (n * p) (h * p)
scaled_lt n h p q = go (cases_lt n h)
  where
    go : (n < h) ⊎ (h ≤ n) → ltb n h ≡ ltb (n * p) (h * p)
    go (inl l) = let m : n * p < h * p = mul-lt-mul_of_pos_right l q in grind (arith, nat_tests)
    go (inr l) = let m : h * p ≤ n * p = mul-le-mul_right p l in grind (arith, nat_tests)

powers_apart : (width count : ℕ) → count ≤ width → 2 ^ (width - count) * 2 ^ count ≡ 2 ^ width
powers_apart width count h = let s : width - count + count ≡ width = omega arith in sym (pow-add 2 (width - count) count) ∙ ap (λ k. 2 ^ k) s

-- a product with 2^count fits where the number fits in so many bits less
pub fits_unsigned_shifted : (width count n : ℕ) → count < width → fits_unsigned (width - count) (pos n) ≡ fits_unsigned width (pos (n * 2 ^ count))
unfolding fits_unsigned
fits_unsigned_shifted width count n h =
    let e = powers_apart width count (omega arith) in
    let s = scaled_lt n (2 ^ (width - count)) (2 ^ count) (pow_pos count) in
    let z : leb 0 n ≡ leb 0 (n * 2 ^ count) = grind (arith, nat_tests) in
    let t : ltb n (2 ^ (width - count)) ≡ ltb (n * 2 ^ count) (2 ^ width) = s ∙ ap (ltb (n * 2 ^ count)) e in
    cc

low_pos : (h n : ℕ) → int_le (neg_ℤ (pos h)) (pos n) ≡ true
low_pos zero n = grind (arith, nat_tests)
low_pos (suc h) n = refl

low_neg : (h m : ℕ) → int_le (neg_ℤ (pos h)) (neg_ℤ (pos m)) ≡ not (ltb h m)
low_neg zero zero = refl
low_neg zero (suc m) = grind (arith, nat_tests)
low_neg (suc h) zero = grind (arith, nat_tests)
low_neg (suc h) (suc m) = grind (arith, nat_tests)

high_neg : (h m : ℕ) → 0 < m → int_lt (neg_ℤ (pos m)) (pos h) ≡ true
high_neg h zero l = absurd (omega arith)
high_neg h (suc m) l = refl

signed_scaled : (half p : ℕ) (z : ℤ) → 0 < p → (int_le (neg_ℤ (pos half)) z && int_lt z (pos half)) ≡ (int_le (neg_ℤ (pos (half * p))) (z *ℤ pos p) && int_lt (z *ℤ pos p) (pos (half * p)))
signed_scaled half p (pos n) q =
    let s = scaled_lt n half p q in
    let x = low_pos half n in
    let y = low_pos (half * p) (n * p) in
    cc
signed_scaled half p (negsuc n) q =
    let s = scaled_lt half (suc n) p q in
    let x = low_neg half (suc n) in
    let y = low_neg (half * p) (suc n * p) in
    let m : 0 < suc n * p = mul-pos (omega arith) q in
    let t = high_neg (half * p) (suc n * p) m in
    cc

pub fits_signed_shifted : (width count : ℕ) (z : ℤ) → count < width → fits_signed (width - count) z ≡ fits_signed width (z *ℤ pos (2 ^ count))
unfolding fits_signed
fits_signed_shifted width count z h =
    let e : 2 ^ (width - count - 1) * 2 ^ count ≡ 2 ^ (width - 1) = (let m : width - count - 1 ≡ width - 1 - count = omega arith in ap (λ k. 2 ^ k * 2 ^ count) m ∙ powers_apart (width - 1) count (omega arith)) in
    signed_scaled (2 ^ (width - count - 1)) (2 ^ count) z (pow_pos count) ∙ ap (λ half. int_le (neg_ℤ (pos half)) (z *ℤ pos (2 ^ count)) && int_lt (z *ℤ pos (2 ^ count)) (pos half)) e
