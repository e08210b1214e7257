-- The greatest stamp of a list that grows.
use Rattle.std.proofs.Common.{◌≡◌, ℕ, ◌+◌, ◌<◌, max, List, [], ◌∷◌, ◌++◌, length, take, get_or, cond, true, false, arith, nat_le, Bool, append-nil, ltb, sym, ap, ◌∙◌}
use Rattle.std.proofs.lemmas.List.Elements.{filter_more}
use lib.Lanes.{zip2, sel_l, chunk}
use Rattle.shadow_codes.proofs.Blocks.{take_chunk}
use Rattle.shadow_codes.specs.Codes.{greatest_of, stamps}

pub greatest_of-append : (xs : List ℕ) (x : ℕ) → greatest_of (xs ++ x ∷ []) ≡ max (greatest_of xs) x
greatest_of-append [] x = omega arith
greatest_of-append (y ∷ ys) x = omega (arith, greatest_of-append ys x)

-- one more code
pub greatest_more : (codes : List ℕ) (i : ℕ) → i < length codes → greatest_of (stamps (take (i + 1) codes)) ≡ cond (nat_le 3 (get_or codes i 0)) (max (greatest_of (stamps (take i codes))) (get_or codes i 0)) (greatest_of (stamps (take i codes)))
greatest_more codes i h = rw (filter_more (nat_le 3) codes i 0 h) (by_test (nat_le 3 (get_or codes i 0)))
  where
    by_test : (b : Bool) → greatest_of (stamps (take i codes) ++ cond b (get_or codes i 0 ∷ []) []) ≡ cond b (max (greatest_of (stamps (take i codes))) (get_or codes i 0)) (greatest_of (stamps (take i codes)))
    by_test true = greatest_of-append _ _
    by_test false = rw append-nil

-- the number where it is a stamp
abbrev stamp_or_none : ℕ → ℕ
stamp_or_none x = cond (nat_le 3 x) x 0

stamps_cons : (x : ℕ) (xs : List ℕ) → greatest_of (stamps (x ∷ xs)) ≡ max (stamp_or_none x) (greatest_of (stamps xs))
stamps_cons x xs = by_test (nat_le 3 x)
  where
    by_test : (b : Bool) → greatest_of (cond b (x ∷ stamps xs) (stamps xs)) ≡ max (cond b x 0) (greatest_of (stamps xs))
    by_test true = omega arith
    by_test false = omega arith

-- of two lists
pub greatest_both : (xs ys : List ℕ) → greatest_of (stamps (xs ++ ys)) ≡ max (greatest_of (stamps xs)) (greatest_of (stamps ys))
greatest_both [] ys = omega arith
greatest_both (x ∷ xs) ys = rw (stamps_cons x (xs ++ ys), stamps_cons x xs, greatest_both xs ys) (omega arith)

stamp_of_greater : (x y a b : ℕ) → max (stamp_or_none (cond (ltb x y) y x)) (max a b) ≡ max (max (stamp_or_none x) a) (max (stamp_or_none y) b)
stamp_of_greater x y a b = grind arith

-- of two vectors, lane by lane
pub greatest_lanes : (xs ys : List ℕ) → length xs ≡ length ys → greatest_of (stamps (sel_l (zip2 ltb xs ys) ys xs)) ≡ max (greatest_of (stamps xs)) (greatest_of (stamps ys))
greatest_lanes [] [] same = omega arith
greatest_lanes [] (y ∷ ys) same = absurd (omega arith)
greatest_lanes (x ∷ xs) [] same = absurd (omega arith)
greatest_lanes (x ∷ xs) (y ∷ ys) same =
    rw (stamps_cons (cond (ltb x y) y x) (sel_l (zip2 ltb xs ys) ys xs), stamps_cons x xs, stamps_cons y ys, greatest_lanes xs ys (omega arith))
    (stamp_of_greater x y (greatest_of (stamps xs)) (greatest_of (stamps ys)))

-- of one block more
pub greatest_block : (a n m : ℕ) (codes most : List ℕ) → m ≡ a + n → length most ≡ length (chunk a n codes) → greatest_of (stamps most) ≡ greatest_of (stamps (take a codes))
    → greatest_of (stamps (sel_l (zip2 ltb most (chunk a n codes)) (chunk a n codes) most)) ≡ greatest_of (stamps (take m codes))
greatest_block a n m codes most is long before =
    greatest_lanes most (chunk a n codes) long ∙ ap (λ g. max g (greatest_of (stamps (chunk a n codes)))) before
    ∙ sym (greatest_both (take a codes) (chunk a n codes)) ∙ ap (λ xs. greatest_of (stamps xs)) (sym (take_chunk a n m codes is))
