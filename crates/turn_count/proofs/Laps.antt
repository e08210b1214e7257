-- One lap of a walk round a circle, of which the first places are inside.
use Rattle.std.proofs.Common.{ℕ, ◌+◌, ◌-◌, ◌*◌, ◌/◌, ◌%◌, ◌<◌, ◌≤◌, ◌≡◌, true, false, ap, ◌∙◌, arith}
use Rattle.std.specs.Prelude.{nat_lt}
use Rattle.std.proofs.Math.Nat.{mod-eq_of_lt, mod-lt, div-add-mod', add-mul-mod_self_right, mul-le-mul_right}
use Rattle.std.proofs.lemmas.Bool.Decides.{nat_tests}

pub below : (a b : ℕ) → a < b → nat_lt a b ≡ true
below a b h = grind (arith, nat_tests)

pub from_on : (a b : ℕ) → b ≤ a → nat_lt a b ≡ false
from_on a b h = grind (arith, nat_tests)

-- so many steps are no further than the whole way
steps_most : (j n s : ℕ) → 0 < s → j < n / s + 1 → j * s ≤ n
steps_most j n s p h =
    let e = div-add-mod' n s in
    let m : j * s ≤ n / s * s = mul-le-mul_right s (omega arith) in
    omega arith

-- and one more is further
steps_past : (n s : ℕ) → 0 < s → n < (n / s + 1) * s
steps_past n s p =
    let e = div-add-mod' n s in
    let r : n % s < s = mod-lt n p in
    let d : (n / s + 1) * s ≡ n / s * s + s = grind arith in
    omega arith

-- by at most a step
steps_least : (n s : ℕ) → 0 < s → (n / s + 1) * s ≤ n + s
steps_least n s p =
    let e = div-add-mod' n s in
    let d : (n / s + 1) * s ≡ n / s * s + s = grind arith in
    omega arith

-- before the walk comes past what is inside
pub onward_in : (whole inside place step j : ℕ) → inside ≤ whole → place < inside → 0 < step → j < (inside - 1 - place) / step + 1 → nat_lt ((place + j * step) % whole) inside ≡ true
onward_in whole inside place step j w p s h =
    let m = steps_most j (inside - 1 - place) step s h in
    let e : (place + j * step) % whole ≡ place + j * step = mod-eq_of_lt (omega arith) in
    rw e (below (place + j * step) inside (omega arith))

-- where it comes past that, within the lap
pub onward_out : (whole inside place step : ℕ) → place < inside → 0 < step → place + ((inside - 1 - place) / step + 1) * step < whole → nat_lt ((place + ((inside - 1 - place) / step + 1) * step) % whole) inside ≡ false
onward_out whole inside place step p s h =
    let m = steps_past (inside - 1 - place) step s in
    let e = mod-eq_of_lt h in
    rw e (from_on (place + ((inside - 1 - place) / step + 1) * step) inside (omega arith))

-- a step onward and what it is short of the lap, so many times, are so many laps
around : (whole step j : ℕ) → step < whole → j * step + j * (whole - step) ≡ j * whole
around whole step j h =
    let e : step + (whole - step) ≡ whole = omega arith in
    let d : j * step + j * (whole - step) ≡ j * (step + (whole - step)) = grind arith in
    d ∙ ap (λ k. j * k) e

-- before the walk, going back, comes past the first place
pub backward_in : (whole inside place step j : ℕ) → inside ≤ whole → place < inside → step < whole → j < place / (whole - step) + 1 → nat_lt ((place + j * step) % whole) inside ≡ true
backward_in whole inside place step j w p s h =
    let m = steps_most j place (whole - step) (omega arith) h in
    let a = around whole step j s in
    let e : place + j * step ≡ place - j * (whole - step) + j * whole = omega arith in
    let f : (place + j * step) % whole ≡ place - j * (whole - step) = ap (λ k. k % whole) e ∙ (add-mul-mod_self_right (place - j * (whole - step)) j whole ∙ mod-eq_of_lt (omega arith)) in
    rw f (below (place - j * (whole - step)) inside (omega arith))

-- where it comes past that to a place outside
pub backward_out : (whole inside place step : ℕ) → place < inside → inside ≤ whole → step < whole → inside + (place / (whole - step) + 1) * (whole - step) ≤ place + whole
    → nat_lt ((place + (place / (whole - step) + 1) * step) % whole) inside ≡ false
backward_out whole inside place step p w s h =
    let q = place / (whole - step) in
    let past = steps_past place (whole - step) (omega arith) in
    let least = steps_least place (whole - step) (omega arith) in
    let a = around whole step (q + 1) s in
    let d : (q + 1) * whole ≡ q * whole + whole = grind arith in
    let e : place + (q + 1) * step ≡ place + whole - (q + 1) * (whole - step) + q * whole = omega arith in
    let f : (place + (q + 1) * step) % whole ≡ place + whole - (q + 1) * (whole - step) = ap (λ k. k % whole) e ∙ (add-mul-mod_self_right (place + whole - (q + 1) * (whole - step)) q whole ∙ mod-eq_of_lt (omega arith)) in
    rw f (from_on (place + whole - (q + 1) * (whole - step)) inside (omega arith))

-- before the first step
pub at_start : (whole inside place step : ℕ) → place < whole → inside ≤ place → nat_lt ((place + 0 * step) % whole) inside ≡ false
at_start whole inside place step h o =
    let s : place + 0 * step ≡ place = grind arith in
    let e : (place + 0 * step) % whole ≡ place = ap (λ k. k % whole) s ∙ mod-eq_of_lt h in
    rw e (from_on place inside o)

-- a walk that stands still
pub still : (whole inside place step j : ℕ) → place < whole → place < inside → step ≡ 0 → nat_lt ((place + j * step) % whole) inside ≡ true
still whole inside place step j h i z =
    let s : place + j * step ≡ place = rw z (grind arith) in
    let e : (place + j * step) % whole ≡ place = ap (λ k. k % whole) s ∙ mod-eq_of_lt h in
    rw e (below place inside i)

-- a circle that is inside as a whole
pub nowhere_out : (whole inside place step j : ℕ) → 0 < whole → inside ≡ whole → nat_lt ((place + j * step) % whole) inside ≡ true
nowhere_out whole inside place step j h e =
    let m = mod-lt (place + j * step) h in
    below ((place + j * step) % whole) inside (omega arith)
