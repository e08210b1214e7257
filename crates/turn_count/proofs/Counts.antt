-- Counts of the turns that lead in.
use Rattle.std.proofs.Common.{ℕ, zero, suc, ◌+◌, ◌<◌, ◌≤◌, ◌≡◌, ◌⊎◌, inl, inr, Bool, true, false, refl, sym, ap, subst, arith}
use Rattle.std.specs.Prelude.{nat_lt, if◌then◌else◌}
use Rattle.std.proofs.lemmas.Bool.{cases_lt}
use Rattle.std.proofs.lemmas.Bool.Decides.{nat_tests}
use Rattle.turn_count.specs.Turns.{count}

-- where all lead in
pub count_all : (leads : ℕ → Bool) (from most : ℕ) → ((j : ℕ) → from ≤ j → j < from + most → leads j ≡ true) → count leads from most ≡ most
unfolding count
count_all leads from zero h = refl
count_all leads from (suc most) h = rw (h from (omega arith) (omega arith)) (ap suc (count_all leads (suc from) most (λ j a b. h j (omega arith) (omega arith))))

-- up to the first that does not
pub count_until : (leads : ℕ → Bool) (from n most : ℕ) → n < most → ((j : ℕ) → from ≤ j → j < from + n → leads j ≡ true) → leads (from + n) ≡ false → count leads from most ≡ n
unfolding count
count_until leads from n zero l h e = absurd (omega arith)
count_until leads from zero (suc most) l h e =
    let s : from + zero ≡ from = omega arith in
    let f : leads from ≡ false = subst (λ k. leads k ≡ false) s e in
    rw f refl
count_until leads from (suc n) (suc most) l h e =
    let s : from + suc n ≡ suc from + n = omega arith in
    rw (h from (omega arith) (omega arith)) (ap suc (count_until leads (suc from) n most (omega arith) (λ j a b. h j (omega arith) (omega arith)) (subst (λ k. leads k ≡ false) s e)))

-- the same from the first turn on
pub all_in : (leads : ℕ → Bool) (cap : ℕ) → ((j : ℕ) → j < cap → leads j ≡ true) → cap ≡ count leads 0 cap
all_in leads cap h = sym (count_all leads 0 cap (λ j a b. h j (omega arith)))

pub first_out : (leads : ℕ → Bool) (n cap : ℕ) → n < cap → ((j : ℕ) → j < n → leads j ≡ true) → leads n ≡ false → n ≡ count leads 0 cap
first_out leads n cap l h e =
    let s : n ≡ 0 + n = omega arith in
    sym (count_until leads 0 n cap l (λ j a b. h j (omega arith)) (subst (λ k. leads k ≡ false) s e))

pub none_in : (leads : ℕ → Bool) (cap : ℕ) → leads 0 ≡ false → 0 ≡ count leads 0 cap
unfolding count
none_in leads zero e = refl
none_in leads (suc cap) e = rw e refl

-- the first that does not, or the cap where that comes first
pub count_capped : (leads : ℕ → Bool) (n most : ℕ) → ((j : ℕ) → j < n → leads j ≡ true) → (most ≤ n) ⊎ (leads n ≡ false) → (if nat_lt n most then n else most) ≡ count leads 0 most
count_capped leads n most h w = go (cases_lt n most) w
  where
    go : (n < most) ⊎ (most ≤ n) → (most ≤ n) ⊎ (leads n ≡ false) → (if nat_lt n most then n else most) ≡ count leads 0 most
    go (inl l) (inl g) = absurd (omega arith)
    go (inl l) (inr e) = let t : nat_lt n most ≡ true = grind (arith, nat_tests) in rw t (first_out leads n most l h e)
    go (inr g) v = let t : nat_lt n most ≡ false = grind (arith, nat_tests) in rw t (all_in leads most (λ j a. h j (omega arith)))

-- two tests that agree
pub count_same : (one other : ℕ → Bool) (from most : ℕ) → ((j : ℕ) → one j ≡ other j) → count one from most ≡ count other from most
unfolding count
count_same one other from zero h = refl
count_same one other from (suc most) h = rw (h from, count_same one other (suc from) most h) refl
