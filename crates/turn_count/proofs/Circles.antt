-- Places on a circle of m numbers, and how far one is behind another.
use Rattle.std.proofs.Common.{ℕ, ◌+◌, ◌-◌, ◌%◌, ◌<◌, ◌≤◌, ◌≡◌, ◌⊎◌, inl, inr, sym, ap, ◌∙◌, arith}
use Rattle.std.specs.Prelude.{not, nat_eq, nat_lt, nat_le}
use Rattle.std.proofs.Math.Nat.{mod-eq_of_lt, add-mod_right, mod-add-mod}
use Rattle.std.proofs.lemmas.Bool.{cases_lt}
use Rattle.std.proofs.lemmas.Bool.Decides.{nat_tests}

-- a number below two laps, on the first or on the second
abbrev pub Lapped : ℕ → ℕ → Type 0
Lapped n m = ((n < m) × (n % m ≡ n)) ⊎ ((m ≤ n) × (n % m ≡ n - m))

pub lap : (n m : ℕ) → n < m + m → Lapped n m
lap n m h = go (cases_lt n m)
  where
    go : (n < m) ⊎ (m ≤ n) → Lapped n m
    go (inl l) = inl (l, mod-eq_of_lt l)
    go (inr g) =
        let e : n - m + m ≡ n = omega arith in
        inr (g, ap (λ k. k % m) (sym e) ∙ (add-mod_right (n - m) m ∙ mod-eq_of_lt (omega arith)))

-- from itself on
pub from_zero : (m x : ℕ) → x < m → (x + (m - 0)) % m ≡ x
from_zero m x h = let e : x + (m - 0) ≡ x + m = omega arith in ap (λ k. k % m) e ∙ (add-mod_right x m ∙ mod-eq_of_lt h)

-- the numbers from b on are m - b
pub behind_ge : (m x b : ℕ) → x < m → b < m → nat_le b x ≡ nat_lt ((x + (m - b)) % m) (m - b)
behind_ge m x b h k = go (lap (x + (m - b)) m (omega arith))
  where
    go : Lapped (x + (m - b)) m → nat_le b x ≡ nat_lt ((x + (m - b)) % m) (m - b)
    go (inl p) = let l = p.0 in rw p.1 (grind (arith, nat_tests))
    go (inr p) = let l = p.0 in rw p.1 (grind (arith, nat_tests))

-- and those after b one fewer
pub behind_gt : (m x b : ℕ) → x < m → b < m → nat_lt b x ≡ nat_lt ((x + (m - (b + 1))) % m) (m - 1 - b)
behind_gt m x b h k = go (lap (x + (m - (b + 1))) m (omega arith))
  where
    go : Lapped (x + (m - (b + 1))) m → nat_lt b x ≡ nat_lt ((x + (m - (b + 1))) % m) (m - 1 - b)
    go (inl p) = let l = p.0 in rw p.1 (grind (arith, nat_tests))
    go (inr p) = let l = p.0 in rw p.1 (grind (arith, nat_tests))

-- b alone
pub behind_eq : (m x b : ℕ) → x < m → b < m → nat_eq x b ≡ nat_lt ((x + (m - b)) % m) 1
behind_eq m x b h k = go (lap (x + (m - b)) m (omega arith))
  where
    go : Lapped (x + (m - b)) m → nat_eq x b ≡ nat_lt ((x + (m - b)) % m) 1
    go (inl p) = let l = p.0 in rw p.1 (grind (arith, nat_tests))
    go (inr p) = let l = p.0 in rw p.1 (grind (arith, nat_tests))

-- all but b
pub behind_ne : (m x b : ℕ) → x < m → b < m → not (nat_eq x b) ≡ nat_lt ((x + (m - (b + 1))) % m) (m - 1)
behind_ne m x b h k = go (lap (x + (m - (b + 1))) m (omega arith))
  where
    go : Lapped (x + (m - (b + 1))) m → not (nat_eq x b) ≡ nat_lt ((x + (m - (b + 1))) % m) (m - 1)
    go (inl p) = let l = p.0 in rw p.1 (grind (arith, nat_tests))
    go (inr p) = let l = p.0 in rw p.1 (grind (arith, nat_tests))

-- a turn of the circle by h changes no distance
pub turned_ge : (m h x b : ℕ) → x < m → b < m → h ≤ m → (x + (m - b)) % m ≡ ((x + h) % m + (m - (b + h) % m)) % m
turned_ge m h x b k l t = go (lap (x + h) m (omega arith)) (lap (b + h) m (omega arith))
  where
    go : Lapped (x + h) m → Lapped (b + h) m → (x + (m - b)) % m ≡ ((x + h) % m + (m - (b + h) % m)) % m
    go (inl p) (inl q) = let u = p.0 in let v = q.0 in let e : x + (m - b) ≡ x + h + (m - (b + h)) = omega arith in rw (p.1, q.1) (ap (λ n. n % m) e)
    go (inr p) (inr q) = let u = p.0 in let v = q.0 in let e : x + (m - b) ≡ x + h - m + (m - (b + h - m)) = omega arith in rw (p.1, q.1) (ap (λ n. n % m) e)
    go (inl p) (inr q) =
        let u = p.0 in
        let v = q.0 in
        let e : x + (m - b) + m ≡ x + h + (m - (b + h - m)) = omega arith in
        rw (p.1, q.1) (sym (add-mod_right (x + (m - b)) m) ∙ ap (λ n. n % m) e)
    go (inr p) (inl q) =
        let u = p.0 in
        let v = q.0 in
        let e : x + h - m + (m - (b + h)) + m ≡ x + (m - b) = omega arith in
        rw (p.1, q.1) (sym (ap (λ n. n % m) e) ∙ add-mod_right (x + h - m + (m - (b + h))) m)

pub turned_gt : (m h x b : ℕ) → x < m → b < m → h ≤ m → (x + (m - (b + 1))) % m ≡ ((x + h) % m + (m - ((b + h) % m + 1))) % m
turned_gt m h x b k l t = go (lap (x + h) m (omega arith)) (lap (b + h) m (omega arith))
  where
    go : Lapped (x + h) m → Lapped (b + h) m → (x + (m - (b + 1))) % m ≡ ((x + h) % m + (m - ((b + h) % m + 1))) % m
    go (inl p) (inl q) = let u = p.0 in let v = q.0 in let e : x + (m - (b + 1)) ≡ x + h + (m - (b + h + 1)) = omega arith in rw (p.1, q.1) (ap (λ n. n % m) e)
    go (inr p) (inr q) = let u = p.0 in let v = q.0 in let e : x + (m - (b + 1)) ≡ x + h - m + (m - (b + h - m + 1)) = omega arith in rw (p.1, q.1) (ap (λ n. n % m) e)
    go (inl p) (inr q) =
        let u = p.0 in
        let v = q.0 in
        let e : x + (m - (b + 1)) + m ≡ x + h + (m - (b + h - m + 1)) = omega arith in
        rw (p.1, q.1) (sym (add-mod_right (x + (m - (b + 1))) m) ∙ ap (λ n. n % m) e)
    go (inr p) (inl q) =
        let u = p.0 in
        let v = q.0 in
        let e : x + h - m + (m - (b + h + 1)) + m ≡ x + (m - (b + 1)) = omega arith in
        rw (p.1, q.1) (sym (ap (λ n. n % m) e) ∙ add-mod_right (x + h - m + (m - (b + h + 1))) m)

-- a place after some steps, turned, is the place turned, and then the steps
pub turned_steps : (m v ahead far f n : ℕ) → n ≡ ahead + far → ((v + n) % m + f) % m ≡ ((v + ahead + f) % m + far) % m
turned_steps m v ahead far f n e =
    let s : v + n + f ≡ v + ahead + f + far = omega arith in
    mod-add-mod (v + n) m f ∙ (ap (λ k. k % m) s ∙ sym (mod-add-mod (v + ahead + f) m far))
