-- Runs of bytes at the front of a text.
use Rattle.std.proofs.Common.{◌≡◌, ℕ, suc, ◌+◌, ◌<◌, ◌≤◌, Bool, true, false, cond, List, [], ◌∷◌, ◌++◌, length, take, get_or, refl, arith}
use Rattle.std.specs.List.{prefix_len}
use Rattle.ir_lex.specs.Cut.{Each, IsRun}

each_cond : (p : ℕ → Bool) (x : ℕ) (xs : List ℕ) (t : Bool) → p x ≡ t → Each p (take (prefix_len p xs) xs) → Each p (take (cond t (1 + prefix_len p xs) 0) (x ∷ xs))
each_cond p x xs true is rest = let e : 1 + prefix_len p xs ≡ suc (prefix_len p xs) = omega arith in rw e (is, rest)
each_cond p x xs false is rest = tt

-- each byte of the longest run passes
pub each_take : (p : ℕ → Bool) (xs : List ℕ) → Each p (take (prefix_len p xs) xs)
each_take p [] = tt
each_take p (x ∷ xs) = each_cond p x xs (p x) refl (each_take p xs)

-- a run of bytes that pass is not longer than the longest
pub each_most : (p : ℕ → Bool) (xs ys : List ℕ) → Each p xs → length xs ≤ prefix_len p (xs ++ ys)
each_most p [] ys all = omega arith
each_most p (x ∷ xs) ys all = let go = each_most p xs ys all.1 in rw all.0 (omega arith)

-- and where the byte behind it does not pass, it is the longest
pub each_all : (p : ℕ → Bool) (xs : List ℕ) (y : ℕ) (ys : List ℕ) → Each p xs → p y ≡ false → prefix_len p (xs ++ y ∷ ys) ≡ length xs
each_all p [] y ys all stop = rw stop refl
each_all p (x ∷ xs) y ys all stop = let go = each_all p xs y ys all.1 stop in rw all.0 (omega arith)

pub each_more : (p q : ℕ → Bool) → ((b : ℕ) → p b ≡ true → q b ≡ true) → (xs : List ℕ) → Each p xs → Each q xs
each_more p q more [] all = tt
each_more p q more (x ∷ xs) all = (more x all.0, each_more p q more xs all.1)

-- the longest run from a byte that may begin one
pub run_take : (first p : ℕ → Bool) (b : ℕ) (xs : List ℕ) → first b ≡ true → p b ≡ true → IsRun first p (take (prefix_len p (b ∷ xs)) (b ∷ xs))
run_take first p b xs begins passes =
    let e : 1 + prefix_len p xs ≡ suc (prefix_len p xs) = omega arith in
    rw (passes, e) (record { head = b; tail = take (prefix_len p xs) xs; is = refl; begins = begins; goes_on = each_take p xs })

pub run_most : (first p : ℕ → Bool) → ((b : ℕ) → first b ≡ true → p b ≡ true) → (t after : List ℕ) → IsRun first p t → length t ≤ prefix_len p (t ++ after)
run_most first p more t after run =
    rw run.is (each_most p (run.head ∷ run.tail) after (more run.head run.begins, run.goes_on))

pub run_each : (first p : ℕ → Bool) → ((b : ℕ) → first b ≡ true → p b ≡ true) → (t : List ℕ) → IsRun first p t → Each p t
run_each first p more t run = rw run.is (more run.head run.begins, run.goes_on)

pub run_first : (first p : ℕ → Bool) (t after : List ℕ) → IsRun first p t → first (get_or (t ++ after) 0 0) ≡ true
run_first first p t after run = rw run.is run.begins

pub run_some : (first p : ℕ → Bool) (t : List ℕ) → IsRun first p t → 0 < length t
run_some first p t run = rw run.is (omega arith)
