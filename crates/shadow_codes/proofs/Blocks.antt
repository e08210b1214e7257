-- Loops that go over a list block by block.
use Rattle.std.proofs.Common.{◌≡◌, ℕ, zero, suc, ◌+◌, ◌≤◌, ◌==◌, List, [], ◌∷◌, ◌++◌, length, take, drop, map, refl, ap, arith, Bool, false, cond, eqb, replicate, ◌^◌, ◌-◌, w16}
use lib.Lanes.{put_chunk, chunk, sel_l, zip2, top}
use mir.Val.{bits, hbits}
use borrow.Rule.Slice.PartMut.{put_mid}
use Rattle.std.proofs.lemmas.Simd.{tops_compared, splat_is_map}
use Rattle.shadow_codes.specs.Codes.{reset_code, class_of, Stamp}

-- the lanes that a test of two vectors picks of two others, all computed lane by lane from one
pub selected : (t : ℕ → ℕ → Bool) (k h f g : ℕ → ℕ) (vs : List ℕ) → sel_l (zip2 t (map k vs) (map h vs)) (map f vs) (map g vs) ≡ map (λ v. cond (t (k v) (h v)) (f v) (g v)) vs
selected t k h f g [] = refl
selected t k h f g (v ∷ vs) = ap (λ ws. cond (t (k v) (h v)) (f v) (g v) ∷ ws) (selected t k h f g vs)

-- the lanes that are so many, and those that are not
pub chosen : (n k : ℕ) (f g h : ℕ → ℕ) (vs xs ys zs : List ℕ) → length vs ≡ n → xs ≡ map f vs → ys ≡ map g vs → zs ≡ map h vs
    → sel_l (map (top (hbits w16)) (zip2 (λ a b. cond (eqb a b) (2 ^ bits w16 - 1) 0) xs (replicate n k))) ys zs ≡ map (λ v. cond (eqb (f v) k) (g v) (h v)) vs
chosen n k f g h vs xs ys zs long ex ey ez =
    rw (tops_compared w16 eqb xs (replicate n k), ex, ey, ez, splat_is_map vs n k long) (selected eqb f (λ _. k) g h vs)

pub same_lanes : (f g : ℕ → ℕ) (vs : List ℕ) → ((v : ℕ) → f v ≡ g v) → map f vs ≡ map g vs
same_lanes f g [] h = refl
same_lanes f g (v ∷ vs) h = rw (h v) (ap (λ ws. g v ∷ ws) (same_lanes f g vs h))

put_front : (f : ℕ → ℕ) (n : ℕ) (xs : List ℕ) → put_chunk 0 xs (map f (take n xs)) ≡ map f (take n xs) ++ drop n xs
put_front f zero [] = refl
put_front f (suc n) [] = refl
put_front f zero (x ∷ xs) = refl
put_front f (suc n) (x ∷ xs) = ap (λ ys. f x ∷ ys) (put_front f n xs)

-- one block more of a list that is mapped in place
pub block_more : (f : ℕ → ℕ) (at n m : ℕ) (xs : List ℕ) → m ≡ at + n → m ≤ length xs
    → put_chunk at (map f (take at xs) ++ drop at xs) (map f (chunk at n (map f (take at xs) ++ drop at xs))) ≡ map f (take m xs) ++ drop m xs
block_more f zero n m xs is within = let e : m ≡ n = omega arith in rw e (put_front f n xs)
block_more f (suc at) n m [] is within = absurd (omega arith)
block_more f (suc at) n zero (x ∷ xs) is within = absurd (omega arith)
block_more f (suc at) n (suc m) (x ∷ xs) is within = ap (λ ys. f x ∷ ys) (block_more f at n m xs (omega arith) (omega arith))

pub class_stamp : (g : ℕ) → 3 ≤ g → class_of g ≡ Stamp g
class_stamp g h =
    let a : (g == 0) ≡ false = grind arith in
    let b : (g == 1) ≡ false = grind arith in
    let c : (g == 2) ≡ false = grind arith in
    rw (a, b, c) refl

-- a code at the start of the next period, as the lanes find it
pub next_lane : (v : ℕ) → cond (cond (v == 2) 0 v == 0) 0 1 ≡ reset_code v
next_lane zero = refl
next_lane (suc zero) = refl
next_lane (suc (suc zero)) = refl
next_lane (suc (suc (suc v))) =
    let two : (suc (suc (suc v)) == 2) ≡ false = grind arith in
    let none : (suc (suc (suc v)) == 0) ≡ false = grind arith in
    rw (class_stamp (suc (suc (suc v))) (omega arith), two, none) refl

rest_mapped : (f : ℕ → ℕ) (k : ℕ) (xs : List ℕ) → length xs ≤ k → map f (take k xs) ++ drop k xs ≡ map f xs
rest_mapped f zero [] h = refl
rest_mapped f zero (x ∷ xs) h = absurd (omega arith)
rest_mapped f (suc k) [] h = refl
rest_mapped f (suc k) (x ∷ xs) h = ap (λ ys. f x ∷ ys) (rest_mapped f k xs (omega arith))

all_of : (k : ℕ) (xs : List ℕ) → length xs ≤ k → take k xs ≡ xs
all_of zero [] h = refl
all_of zero (x ∷ xs) h = absurd (omega arith)
all_of (suc k) [] h = refl
all_of (suc k) (x ∷ xs) h = ap (λ ys. x ∷ ys) (all_of k xs (omega arith))

-- what is left behind a place
pub rest_is : (a k : ℕ) (xs : List ℕ) → length xs ≤ a + k → take k (drop a xs) ≡ drop a xs
rest_is zero k xs h = all_of k xs (omega arith)
rest_is (suc a) zero [] h = refl
rest_is (suc a) (suc k) [] h = refl
rest_is (suc a) k (x ∷ xs) h = rest_is a k xs (omega arith)

-- the rest of a list behind what was mapped in place
pub put_rest : (f : ℕ → ℕ) (w k : ℕ) (xs : List ℕ) → w ≤ length xs → length xs ≤ w + k
    → put_mid w k (map f (take w xs) ++ drop w xs) (map f (take k (drop w (map f (take w xs) ++ drop w xs)))) ≡ map f xs
put_rest f zero k xs within all = rest_mapped f k xs (omega arith)
put_rest f (suc w) k [] within all = absurd (omega arith)
put_rest f (suc w) k (x ∷ xs) within all = ap (λ ys. f x ∷ ys) (put_rest f w k xs (omega arith) (omega arith))

pub take_chunk : (a n m : ℕ) (xs : List ℕ) → m ≡ a + n → take m xs ≡ take a xs ++ chunk a n xs
take_chunk zero n m xs is = let e : m ≡ n = omega arith in ap (λ k. take k xs) e
take_chunk (suc a) n zero xs is = absurd (omega arith)
take_chunk (suc a) zero (suc m) [] is = refl
take_chunk (suc a) (suc n) (suc m) [] is = refl
take_chunk (suc a) n (suc m) (x ∷ xs) is = ap (λ ys. x ∷ ys) (take_chunk a n m xs (omega arith))

pub halves : (a : ℕ) (xs : List ℕ) → take a xs ++ drop a xs ≡ xs
halves zero xs = refl
halves (suc a) [] = refl
halves (suc a) (x ∷ xs) = ap (λ ys. x ∷ ys) (halves a xs)
