-- What is left of a number at a width.
use Rattle.std.proofs.Common.{ℕ, suc, ◌+◌, ◌-◌, ◌*◌, ◌/◌, ◌%◌, ◌^◌, ◌<◌, ◌≤◌, ◌≡◌, refl, sym, ap, ◌∙◌, arith}
use Rattle.std.specs.Prelude.{ℤ, pos, negsuc, ◌-ℤ◌, FitsSigned}
use Rattle.std.specs.Int.{w64, cast_unsigned}
use Rattle.std.proofs.Math.Nat.{mod-eq_of_lt, mod-lt}
use Rattle.std.proofs.Math.Pow.{pow_pos}
use Rattle.std.proofs.lemmas.Nat.{mod-pow-add, mod_low, pow-add, div_below, shr_split}
use Rattle.std.proofs.lemmas.Int.{ints}
use Rattle.int_num.specs.Operations.{residue}

-- 64 bits hold all that a width needs
pub mod_inner : (n width : ℕ) → width ≤ 64 → n % 18446744073709551616 % 2 ^ width ≡ n % 2 ^ width
mod_inner n width h =
    let e = mod-pow-add n (64 - width) width in
    let s : 64 - width + width ≡ 64 = omega arith in
    let f : n % 2 ^ (64 - width + width) ≡ n % 2 ^ 64 = ap (λ k. n % 2 ^ k) s in
    let l = mod_low (n / 2 ^ width % 2 ^ (64 - width)) width (n % 2 ^ width) (mod-lt n (pow_pos width)) in
    ap (λ m. m % 2 ^ width) (sym f ∙ e) ∙ l

pub residue_pos : (width n : ℕ) → residue width (pos n) ≡ n % 2 ^ width
unfolding residue
residue_pos width n = refl

-- the number itself, where it fits
pub residue_small : (width n : ℕ) → n < 2 ^ width → residue width (pos n) ≡ n
unfolding residue
residue_small width n h = mod-eq_of_lt h

residue_negsuc : (width n : ℕ) → n < 2 ^ width → residue width (negsuc n) ≡ 2 ^ width - 1 - n
unfolding residue
residue_negsuc width n h = ap (λ m. 2 ^ width - 1 - m) (mod-eq_of_lt h)

-- a difference that is not negative, and one that is
pub residue_up : (width a b : ℕ) → b ≤ a → a < 2 ^ width → residue width (pos a -ℤ pos b) ≡ a - b
residue_up width a b h k =
    let e : (pos a -ℤ pos b) ≡ pos (a - b) = omega (arith, ints) in
    ap (residue width) e ∙ residue_small width (a - b) (omega arith)

pub residue_down : (width a b : ℕ) → a < b → b < 2 ^ width → residue width (pos a -ℤ pos b) ≡ 2 ^ width - 1 - (b - a - 1)
residue_down width a b h k =
    let e : (pos a -ℤ pos b) ≡ negsuc (b - a - 1) = omega (arith, ints) in
    ap (residue width) e ∙ residue_negsuc width (b - a - 1) (omega arith)

split : (h q m r n : ℕ) → n ≡ q * m + r → r < m → (h + 1 + q) * m - suc n ≡ h * m + (m - 1 - r)
split h q m r n e l =
    let d : (h + 1 + q) * m ≡ h * m + m + q * m = grind arith in
    omega arith

-- the bits of a 64-bit number in two's complement, cut to the width
pub residue_of : (width : ℕ) (z : ℤ) → width ≤ 64 → FitsSigned w64 z → cast_unsigned w64 z % 2 ^ width ≡ residue width z
unfolding residue
residue_of width (pos n) h f = refl
residue_of width (negsuc n) h f =
    let g : n < 9223372036854775808 = f.sfits in
    let s : 64 - width + width ≡ 64 = omega arith in
    let t : 2 ^ (64 - width) * 2 ^ width ≡ 18446744073709551616 = sym (pow-add 2 (64 - width) width) ∙ ap (λ k. 2 ^ k) s in
    let q : n / 2 ^ width < 2 ^ (64 - width) = div_below n (2 ^ width) (2 ^ (64 - width)) (pow_pos width) (omega arith) in
    let r : n % 2 ^ width < 2 ^ width = mod-lt n (pow_pos width) in
    let hi = 2 ^ (64 - width) - 1 - n / 2 ^ width in
    let u : hi + 1 + n / 2 ^ width ≡ 2 ^ (64 - width) = omega arith in
    let v = split hi (n / 2 ^ width) (2 ^ width) (n % 2 ^ width) n (sym (shr_split n width)) r in
    let w : (hi + 1 + n / 2 ^ width) * 2 ^ width ≡ 18446744073709551616 = ap (λ k. k * 2 ^ width) u ∙ t in
    let x : 18446744073709551616 - suc n ≡ hi * 2 ^ width + (2 ^ width - 1 - n % 2 ^ width) = sym (ap (λ k. k - suc n) w) ∙ v in
    ap (λ k. k % 2 ^ width) x ∙ mod_low hi width (2 ^ width - 1 - n % 2 ^ width) (omega arith)
