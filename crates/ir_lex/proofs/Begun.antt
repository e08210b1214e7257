-- A text that is the front of a piece, and no piece itself, ends inside a token.
use Rattle.std.proofs.Common.{◌≡◌, ℕ, ◌+◌, ◌⊎◌, inl, inr, Bool, true, false, cond, List, [], ◌∷◌, ◌++◌, length, refl, sym, ap, ◌∙◌, arith, append_assoc}
use Rattle.std.specs.Prelude.{◌==◌}
use Rattle.std.specs.List.{prefix_len}
use Rattle.std.proofs.lemmas.Bool.{eqb-true}
use Rattle.std.proofs.lemmas.Bool.Decides.{nat_tests}
use Rattle.std.proofs.lemmas.List.{append-nil}
use Rattle.ir_lex.specs.Classes.{in_string}
use Rattle.ir_lex.specs.Lexing.{all_pass}
use Rattle.ir_lex.specs.Cut.{Each, IsRun, IsQuoted}

-- of two texts that begin one text, one is the front of the other
pub split : (t after text more : List ℕ) → t ++ after ≡ text ++ more → ((r : List ℕ) × (t ++ r ≡ text)) ⊎ ((r : List ℕ) × (text ++ r ≡ t))
split [] after text more e = inl (text, refl)
split (x ∷ t) after [] more e = inr (x ∷ t, refl)
split (x ∷ t) after (y ∷ text) more e =
    let same : x ≡ y = cc in
    let rest : t ++ after ≡ text ++ more = cc in
    elim (split t after text more rest) [
      | inl p ↦ inl (p.0, rw same (ap (λ (z : List ℕ). y ∷ z) p.1))
      | inr p ↦ inr (p.0, rw same (ap (λ (z : List ℕ). y ∷ z) p.1))
    ]

-- tests of all bytes

one_more : (t : Bool) (n m : ℕ) → t ≡ true → (n == m) ≡ true → (cond t (1 + n) 0 == 1 + m) ≡ true
one_more true n m is e = let f : n ≡ m = eqb-true n m e in rw f (grind (arith, nat_tests))
one_more false n m is e = absurd (cc)

pub each_pass : (p : ℕ → Bool) (xs : List ℕ) → Each p xs → all_pass p xs ≡ true
each_pass p [] all = refl
each_pass p (x ∷ xs) all = let e : length (x ∷ xs) ≡ 1 + length xs = omega arith in rw e (one_more (p x) (prefix_len p xs) (length xs) all.0 (each_pass p xs all.1))

one_less : (t : Bool) (n m : ℕ) → (cond t (1 + n) 0 == 1 + m) ≡ true → (t ≡ true) × ((n == m) ≡ true)
one_less true n m e = let f : 1 + n ≡ 1 + m = eqb-true (1 + n) (1 + m) e in let g : n ≡ m = omega arith in (refl, rw g (grind (arith, nat_tests)))
one_less false n m e = absurd (let f : 0 ≡ 1 + m = eqb-true 0 (1 + m) e in omega arith)

pub pass_each : (p : ℕ → Bool) (xs : List ℕ) → all_pass p xs ≡ true → Each p xs
pass_each p [] e = tt
pass_each p (x ∷ xs) e =
    let l : length (x ∷ xs) ≡ 1 + length xs = omega arith in
    let h = one_less (p x) (prefix_len p xs) (length xs) (rw l at e) in
    (h.0, pass_each p xs h.1)

pub each_front : (p : ℕ → Bool) (xs ys : List ℕ) → Each p (xs ++ ys) → Each p xs
each_front p [] ys all = tt
each_front p (x ∷ xs) ys all = (all.0, each_front p xs ys all.1)

-- the front of a run of bytes is one
pub run_front : (first p : ℕ → Bool) (x : ℕ) (xs r : List ℕ) → IsRun first p ((x ∷ xs) ++ r) → IsRun first p (x ∷ xs)
run_front first p x xs r run =
    let same : x ≡ run.head = (let e = run.is in cc) in
    let rest : xs ++ r ≡ run.tail = (let e = run.is in cc) in
    record {
      head = x;
      tail = xs;
      is = refl;
      begins = rw same run.begins;
      goes_on = each_front p xs r (rw rest run.goes_on);
    }

pub one_run : (first p : ℕ → Bool) (x : ℕ) (xs r : List ℕ) → IsRun first p ((x ∷ xs) ++ r) → IsRun first p (x ∷ [])
one_run first p x xs r run = run_front first p x [] (xs ++ r) run

-- the front of a string is one, or has no closing quote
pub record IsOpened (text : List ℕ) : Type 0 where
  pub body : List ℕ
  pub is : text ≡ 34 ∷ body
  pub within : Each in_string body

pub last_of : (s r : List ℕ) → s ++ r ≡ 34 ∷ [] → (s ≡ []) ⊎ (s ≡ 34 ∷ [])
last_of [] r e = inl refl
last_of (x ∷ []) r e = let f : x ≡ 34 = cc in inr (rw f refl)
last_of (x ∷ y ∷ s) r e = absurd (cc)

quoted_body : (ys r body : List ℕ) → ys ++ r ≡ body ++ 34 ∷ [] → Each in_string body → (ys ≡ body ++ 34 ∷ []) ⊎ Each in_string ys
quoted_body ys r body e all =
    elim (split ys r body (34 ∷ []) e) [
      | inl p ↦ inr (each_front in_string ys p.0 (rw p.1 all))
      | inr p ↦
          (let tail : p.0 ++ r ≡ 34 ∷ [] = same_tail body (p.0 ++ r) (34 ∷ []) (sym (append_assoc body p.0 r) ∙ ap (λ (z : List ℕ). z ++ r) p.1 ∙ e) in
          elim (last_of p.0 r tail) [
            | inl none ↦ inr (rw (← p.1, none, append-nil body) all)
            | inr whole ↦ inl (rw (← p.1, whole) refl)
          ])
    ]
  where
    same_tail : (xs ys zs : List ℕ) → xs ++ ys ≡ xs ++ zs → ys ≡ zs
    same_tail [] ys zs e = e
    same_tail (x ∷ xs) ys zs e = same_tail xs ys zs (let f : xs ++ ys ≡ xs ++ zs = cc in f)

pub quoted_front : (x : ℕ) (xs r : List ℕ) → IsQuoted ((x ∷ xs) ++ r) → IsQuoted (x ∷ xs) ⊎ IsOpened (x ∷ xs)
quoted_front x xs r q =
    let same : x ≡ 34 = (let e = q.is in cc) in
    let rest : xs ++ r ≡ q.body ++ 34 ∷ [] = (let e = q.is in cc) in
    elim (quoted_body xs r q.body rest q.within) [
      | inl whole ↦ inl (record { body = q.body; is = rw (same, whole) refl; within = q.within })
      | inr all ↦ inr (record { body = xs; is = rw same refl; within = all })
    ]
