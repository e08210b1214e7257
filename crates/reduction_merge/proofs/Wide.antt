-- Sums that are kept in 128 bits.
use Rattle.std.proofs.Common.{◌≡◌, ℤ, pos, negsuc, ◌^◌, ◌+ℤ◌, ◌≤ℤ◌, to_z, of_z, arith, FitsSigned}
use Rattle.std.specs.Int.{w128}
use Rattle.std.proofs.lemmas.Int.{ints, to_z-of_z}

fits_of : (x : ℤ) → pos 0 ≤ℤ x → x ≤ℤ pos (2 ^ 124) → FitsSigned w128 x
fits_of (pos n) h k = record { sfits = omega (arith, ints) }
fits_of (negsuc n) h k = record { sfits = omega (arith, ints) }

pub sum_positive : (s p a : ℤ) → FitsSigned w128 s → p ≤ℤ pos (2 ^ 124) → FitsSigned w128 a → s ≡ to_z w128 (of_z w128 p) +ℤ to_z w128 (of_z w128 a) → pos 0 ≤ℤ p → pos 0 ≤ℤ a → pos 0 ≤ℤ to_z w128 (of_z w128 s)
sum_positive s p a fs most fa is hp ha =
    let fp : FitsSigned w128 p = fits_of p hp most in
    let es = to_z-of_z w128 s fs in
    let ep = to_z-of_z w128 p fp in
    let ea = to_z-of_z w128 a fa in
    omega (arith, ints)
