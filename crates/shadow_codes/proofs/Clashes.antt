-- The first clash of two lists, in parts.
use Rattle.std.proofs.Common.{◌≡◌, ℕ, zero, suc, ◌+◌, ◌-◌, ◌*◌, ◌≤◌, ◌==◌, List, [], ◌∷◌, ◌++◌, length, map, refl, sym, ap, ◌∙◌, arith, Bool, true, false, cond, not, nat_lt, ◌<◌, eqb, replicate, take, drop, Option, Some, None, option_map}
use Rattle.std.specs.List.{prefix_len, zip}
use lib.Lanes.{zip2, mask_l, sel_l, chunk}
use Rattle.shadow_codes.proofs.Blocks.{take_chunk, halves, rest_is, class_stamp}
use Rattle.std.proofs.lemmas.List.{length-take}
use Rattle.shadow_codes.specs.Codes.{class_of, reset_code, is_read, is_written, clashes, first_clash_of}

-- the first that passes a test, with the first of a list apart
first_step : (b : Bool) (n len : ℕ) → cond (nat_lt (cond (not b) (1 + n) 0) (suc len)) (Some (cond (not b) (1 + n) 0)) None ≡ cond b (Some 0) (option_map suc (cond (nat_lt n len) (Some n) None))
first_step true n len = grind arith
first_step false n len = grind arith

pub clash_cons : (r w : ℕ) (reads writes : List ℕ) → first_clash_of (r ∷ reads) (w ∷ writes) ≡ cond (clashes r w) (Some 0) (option_map suc (first_clash_of reads writes))
clash_cons r w reads writes = first_step (clashes r w) (prefix_len (λ (p : ℕ × ℕ). not (clashes p.0 p.1)) (zip reads writes)) (length (zip reads writes))

no_head : (b : Bool) (rest : Option ℕ) → cond b (Some 0) (option_map suc rest) ≡ None → (b ≡ false) × (rest ≡ None)
no_head true rest e = cc
no_head false None e = (refl, refl)
no_head false (Some k) e = cc

one_more : (n : ℕ) (found : Option ℕ) → option_map suc (option_map (λ k. n + k) found) ≡ option_map (λ k. suc n + k) found
one_more n None = refl
one_more n (Some k) = let e : suc (n + k) ≡ suc n + k = omega arith in ap Some e

none_more : (found : Option ℕ) → found ≡ option_map (λ k. 0 + k) found
none_more None = refl
none_more (Some k) = let e : k ≡ 0 + k = omega arith in ap Some e

-- behind a front without one
pub clash_behind : (a b c d : List ℕ) → length a ≡ length b → first_clash_of a b ≡ None → first_clash_of (a ++ c) (b ++ d) ≡ option_map (λ k. length a + k) (first_clash_of c d)
clash_behind [] [] c d same none = none_more (first_clash_of c d)
clash_behind [] (y ∷ b) c d same none = absurd (omega arith)
clash_behind (x ∷ a) [] c d same none = absurd (omega arith)
clash_behind (x ∷ a) (y ∷ b) c d same none =
    let parts = no_head (clashes x y) (first_clash_of a b) (sym (clash_cons x y a b) ∙ none) in
    rw (clash_cons x y (a ++ c) (b ++ d), parts.0, clash_behind a b c d (omega arith) parts.1) (one_more (length a) (first_clash_of c d))

read_is : (r : ℕ) → is_read (class_of r) ≡ (r == 2)
read_is zero = refl
read_is (suc zero) = refl
read_is (suc (suc zero)) = refl
read_is (suc (suc (suc r))) =
    let other : (suc (suc (suc r)) == 2) ≡ false = grind arith in
    rw (class_stamp (suc (suc (suc r))) (omega arith), other) refl

written_is : (w : ℕ) → is_written (class_of w) ≡ (reset_code w == 1)
written_is zero = refl
written_is (suc zero) = refl
written_is (suc (suc zero)) = refl
written_is (suc (suc (suc w))) = rw (class_stamp (suc (suc (suc w))) (omega arith)) refl

-- a lane of the hits
abbrev pub hit : ℕ → ℕ → ℕ
hit r w = cond (r == 2) (reset_code w) 0

hit_is : (r w : ℕ) → clashes r w ≡ (hit r w == 1)
hit_is r w = rw (read_is r, written_is w) (by_test (r == 2) (reset_code w))
  where
    by_test : (b : Bool) (n : ℕ) → cond b (n == 1) false ≡ (cond b n 0 == 1)
    by_test true n = refl
    by_test false n = refl

no_bit : (b : Bool) (rest : ℕ) → cond b 1 0 + 2 * rest ≡ 0 → (b ≡ false) × (rest ≡ 0)
no_bit true rest e = absurd (omega arith)
no_bit false rest e = (refl, omega arith)

-- no lane is a hit
pub no_hit : (reads writes : List ℕ) → mask_l (map (λ x. x == 1) (zip2 hit reads writes)) ≡ 0 → first_clash_of reads writes ≡ None
no_hit [] writes e = refl
no_hit (r ∷ reads) [] e = refl
no_hit (r ∷ reads) (w ∷ writes) e =
    let bits = no_bit (hit r w == 1) (mask_l (map (λ x. x == 1) (zip2 hit reads writes))) e in
    rw (clash_cons r w reads writes, hit_is r w, bits.0, no_hit reads writes bits.1) refl

pub hits_are : (reads writes : List ℕ) → sel_l (zip2 eqb reads (replicate (length reads) 2)) (map reset_code writes) (replicate (length reads) 0) ≡ zip2 hit reads writes
hits_are [] writes = refl
hits_are (r ∷ reads) [] = refl
hits_are (r ∷ reads) (w ∷ writes) = ap (λ vs. hit r w ∷ vs) (hits_are reads writes)

same_front : (a : ℕ) (xs ys : List ℕ) → length xs ≡ length ys → length (take a xs) ≡ length (take a ys)
same_front zero xs ys same = refl
same_front (suc a) [] [] same = refl
same_front (suc a) [] (y ∷ ys) same = absurd (omega arith)
same_front (suc a) (x ∷ xs) [] same = absurd (omega arith)
same_front (suc a) (x ∷ xs) (y ∷ ys) same = ap suc (same_front a xs ys (omega arith))

-- no clash in one block more
pub no_clash_more : (a n m : ℕ) (reads writes : List ℕ) → m ≡ a + n → length reads ≡ length writes → first_clash_of (take a reads) (take a writes) ≡ None
    → first_clash_of (chunk a n reads) (chunk a n writes) ≡ None → first_clash_of (take m reads) (take m writes) ≡ None
no_clash_more a n m reads writes is same before here =
    rw (take_chunk a n m reads is, take_chunk a n m writes is)
    (clash_behind (take a reads) (take a writes) (chunk a n reads) (chunk a n writes) (same_front a reads writes same) before ∙ ap (option_map (λ k. length (take a reads) + k)) here)

-- the first clash behind a front without one
pub clash_from : (a : ℕ) (reads writes : List ℕ) → length reads ≡ length writes → a ≤ length reads → first_clash_of (take a reads) (take a writes) ≡ None
    → first_clash_of reads writes ≡ option_map (λ k. a + k) (first_clash_of (drop a reads) (drop a writes))
clash_from a reads writes same within none =
    let long : length (take a reads) ≡ a = omega (arith, length-take a reads) in
    ap (λ xs. first_clash_of xs writes) (sym (halves a reads)) ∙ ap (first_clash_of (take a reads ++ drop a reads)) (sym (halves a writes))
    ∙ clash_behind (take a reads) (take a writes) (drop a reads) (drop a writes) (same_front a reads writes same) none
    ∙ ap (λ n. option_map (λ k. n + k) (first_clash_of (drop a reads) (drop a writes))) long

below_head : (b : Bool) (n k : ℕ) (rest : Option ℕ) → cond b (Some 0) (option_map suc rest) ≡ Some k → ((j : ℕ) → rest ≡ Some j → j < n) → k < suc n
below_head true n k rest e h = grind arith
below_head false n k None e h = cc
below_head false n k (Some j) e h = let below : j < n = h j refl in grind arith

pub clash_below : (reads writes : List ℕ) (k : ℕ) → first_clash_of reads writes ≡ Some k → k < length reads
clash_below [] writes k e = cc
clash_below (r ∷ reads) [] k e = cc
clash_below (r ∷ reads) (w ∷ writes) k e = below_head (clashes r w) (length reads) k (first_clash_of reads writes) (sym (clash_cons r w reads writes) ∙ e) (λ j h. clash_below reads writes j h)

pub no_bits : (n : ℕ) → not (eqb n 0) ≡ false → n ≡ 0
no_bits n e = grind arith

-- of what is left behind a place
pub clash_left : (a : ℕ) (reads writes : List ℕ) → length reads ≡ length writes → first_clash_of (take (length reads - a) (drop a reads)) (take (length writes - a) (drop a writes)) ≡ first_clash_of (drop a reads) (drop a writes)
clash_left a reads writes same = rw (rest_is a (length reads - a) reads (omega arith), rest_is a (length writes - a) writes (omega arith)) refl
