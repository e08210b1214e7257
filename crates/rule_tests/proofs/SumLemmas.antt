-- A sum that stays below a limit, item by item.
use Rattle.std.proofs.Common.{◌≡◌, ℕ, suc, ◌<◌, ◌≤◌, ◌+◌, ◌-◌, true, false, List, length, drop, get_or, sym, arith}
use Rattle.std.specs.Prelude.{nat_le, sum_by}
use Rattle.std.proofs.lemmas.Bool.Decides.{nat_tests}
use Rattle.std.proofs.Math.Seq.{drop-cons}
use Rattle.std.proofs.lemmas.List.{drop_all}
use Rattle.std.proofs.lemmas.List.Sums.{sum_by-cons}

past : (a b left : ℕ) → left < a → nat_le (a + b) left ≡ false
past a b left lt = grind (arith, nat_tests)

within : (a b left : ℕ) → a ≤ left → nat_le (a + b) left ≡ nat_le b (left - a)
within a b left le = grind (arith, nat_tests)

nothing : (left : ℕ) → nat_le 0 left ≡ true
nothing left = grind (arith, nat_tests)

module _ {X : Type 0} (f : X → ℕ) (xs : List X) (i : ℕ) (d : X) (left n : ℕ) (lt : i < length xs) (is : n ≡ f (get_or xs i d)) where
  step : sum_by f (drop i xs) ≡ n + sum_by f (drop (suc i) xs)
  step = rw (drop-cons xs i d lt, is) (sum_by-cons f (get_or xs i d) (drop (suc i) xs))

  pub sum_stop : left < n → false ≡ nat_le (sum_by f (drop i xs)) left
  sum_stop gt = sym (rw step (past n (sum_by f (drop (suc i) xs)) left gt))

  pub sum_go : n ≤ left → nat_le (sum_by f (drop i xs)) left ≡ nat_le (sum_by f (drop (i + 1) xs)) (left - n)
  sum_go le = let s : i + 1 ≡ suc i = omega arith in rw (s, step) (within n (sum_by f (drop (suc i) xs)) left le)

pub sum_end : {X : Type 0} (f : X → ℕ) (xs : List X) (i left : ℕ) → length xs ≤ i → true ≡ nat_le (sum_by f (drop i xs)) left
sum_end f xs i left le = sym (rw (drop_all i xs le) (nothing left))
