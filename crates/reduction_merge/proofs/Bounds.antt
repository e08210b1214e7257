-- The sums of a list of operands, by its length.
use Rattle.std.proofs.Common.{ℕ, ◌-◌, ◌^◌, ◌<◌, ◌≤◌, ◌⊎◌, inl, inr, List, length, sum_by, All, arith}
use Rattle.std.proofs.Math.Nat.{mul-le-mul_right}
use Rattle.std.proofs.lemmas.Bool.{cases_lt}
use Rattle.std.proofs.lemmas.Int.{ints}
use Rattle.std.proofs.lemmas.List.Sums.{sum_by-le}
use Rattle.int_num.specs.Integer.{Integer, HasWidth, signed}
use Rattle.int_num.proofs.Powers.{powers}
use Rattle.int_num.proofs.Signs.{signed_low, signed_high}
use Rattle.reduction_merge.specs.Operands.{SumsLaw, up, down}

bits_most : (x : Integer) (w : ℕ) → HasWidth w x → x.bits ≤ 2 ^ 64
bits_most x w h =
    let p = powers x.width h.integer.width in
    let b = h.integer.bits in
    omega arith

up_most : (x : Integer) (w : ℕ) → HasWidth w x → up (signed x) ≤ 2 ^ 64
up_most x w h = go (cases_lt x.bits (2 ^ (x.width - 1)))
  where
    go : (x.bits < 2 ^ (x.width - 1)) ⊎ (2 ^ (x.width - 1) ≤ x.bits) → up (signed x) ≤ 2 ^ 64
    go (inl l) = rw (signed_low x l h.integer.width) (bits_most x w h)
    go (inr l) = rw (signed_high x l h.integer) (omega arith)

down_most : (x : Integer) (w : ℕ) → HasWidth w x → down (signed x) ≤ 2 ^ 64
down_most x w h = go (cases_lt x.bits (2 ^ (x.width - 1)))
  where
    go : (x.bits < 2 ^ (x.width - 1)) ⊎ (2 ^ (x.width - 1) ≤ x.bits) → down (signed x) ≤ 2 ^ 64
    go (inl l) = rw (signed_low x l h.integer.width) (omega arith)
    go (inr l) = let p = powers x.width h.integer.width in rw (signed_high x l h.integer) (omega arith)

-- a sum over at most 2^60 operands
summed : (f : Integer → ℕ) (w : ℕ) (xs : List Integer) → ((x : Integer) → HasWidth w x → f x ≤ 2 ^ 64) → All (HasWidth w) xs → length xs ≤ 2 ^ 60 → sum_by f xs ≤ 2 ^ 124
summed f w xs each all few =
    let a = sum_by-le f (2 ^ 64) xs (λ k d below. each _ (all k d below)) in
    let b = mul-le-mul_right (2 ^ 64) few in
    omega arith

pub sums_law : SumsLaw
sums_law p xs of all count =
    let few : length xs ≤ 2 ^ 60 = rw (← of.count) count in
    let ups = summed (λ x. up (signed x)) p.width xs (λ x h. up_most x p.width h) all few in
    let downs = summed (λ x. down (signed x)) p.width xs (λ x h. down_most x p.width h) all few in
    let bits = summed (λ x. x.bits) p.width xs (λ x h. bits_most x p.width h) all few in
    record {
      positive = rw of.positive (omega (arith, ints));
      negative = rw of.negative (omega (arith, ints));
      unsigned = rw of.unsigned bits;
    }
