-- What readings give, from their parts.
use Rattle.std.proofs.Common.{◌≡◌, ℕ, zero, suc, ◌+◌, ◌≤◌, length, Bool, true, false, cond, List, [], ◌∷◌, ◌++◌, Ok, Err, ap, subst, ◌∙◌, ◌⊎◌, inl, inr, arith}
use Rattle.std.specs.Prelude.{sum_by}
use Rattle.std.proofs.lemmas.List.Sums.{sum_by-cons}
use Rattle.ir_text.specs.declared.fault.Fault.{Fault}
use Rattle.ir_text.specs.Tokens.{TokenV}
use Rattle.ir_text.specs.Reading.{Outcome, Reader, ◌>>=◌, Meaning, token_by, next_is}
use Rattle.ir_text.specs.Choice.{choose}
use Rattle.ir_text.specs.Repeated.{repeated_to, repeated_under}
use Rattle.ir_text.proofs.Laws.{bind_ok}
use Rattle.ir_text.proofs.Choices.{token_laws}

-- ---- what was read

abbrev done : {A : Type 0} → A × List TokenV → Outcome A
done x = Ok x

pub same_ok : {A : Type 0} (x y : A × List TokenV) → done x ≡ done y → x ≡ y
same_ok x y e = cc

pub same_value : {A : Type 0} (x y : A × List TokenV) → done x ≡ done y → x.0 ≡ y.0
same_value {A} x y e = ap (λ (z : A × List TokenV). z.0) (same_ok x y e)

-- what a reading gives, if it gives anything, is so
pub record Gives {A : Type 0} (P : A × List TokenV → Type 0) (o : Outcome A) : Type 0 where
  pub holds : (x : A × List TokenV) → o ≡ Ok x → P x

pub gives : {A : Type 0} (P : A × List TokenV → Type 0) (x : A × List TokenV) → P x → Gives P (Ok x)
gives P x h = record { holds = λ y e. subst P (same_ok x y e) h }

pub faulty : {A : Type 0} (P : A × List TokenV → Type 0) (e : Fault) → Gives P (Err e)
faulty P d = record { holds = λ y e. absurd cc }

pub then : {A B : Type 0} (P : B × List TokenV → Type 0) (o : Outcome A) (f : A × List TokenV → Outcome B) → ((x : A × List TokenV) → o ≡ Ok x → Gives P (f x)) → Gives P (o >>= f)
then P o f g = record { holds = λ y e. let b = bind_ok o f y e in (g b.0 b.1).holds y b.2 }

pub either : {A : Type 0} (P : A × List TokenV → Type 0) (b : Bool) (o p : Outcome A) → Gives P o → Gives P p → Gives P (cond b o p)
either P true o p g h = g
either P false o p g h = h

-- ---- one token

-- a token that means the value, and the tokens behind it
pub record Token {A : Type 0} (means : Meaning A) (ts : List TokenV) (x : A × List TokenV) : Type 0 where
  pub token : TokenV
  pub parts : ts ≡ token ∷ x.1
  pub is : means token ≡ Ok x.0

pub token_read : {A : Type 0} (means : Meaning A) (ts : List TokenV) (x : A × List TokenV) → token_by means ts ≡ Ok x → Token means ts x
token_read means ts x e =
    let t = (token_laws 0 means).sound ts x e in
    record { token = t.spelled.token; parts = t.parts ∙ ap (λ (u : List TokenV). u ++ x.1) t.spelled.parts; is = t.spelled.is }

pub token_less : {A : Type 0} (means : Meaning A) (ts : List TokenV) (x : A × List TokenV) → token_by means ts ≡ Ok x → 1 + length x.1 ≤ length ts
token_less means ts x e = let t = token_read means ts x e in omega (arith, ap length t.parts)

-- ---- choices

pub chosen : {A : Type 0} (test : TokenV → Bool) (r q : Reader A) (ts : List TokenV) (x : A × List TokenV) → choose test r q ts ≡ Ok x → (r ts ≡ Ok x) ⊎ (q ts ≡ Ok x)
chosen test r q ts x e = by_test (next_is test ts) e
  where
    by_test : (b : Bool) → cond b (r ts) (q ts) ≡ Ok x → (r ts ≡ Ok x) ⊎ (q ts ≡ Ok x)
    by_test true h = inl h
    by_test false h = inr h

-- ---- items, one after the other

-- each is so, under what those before it left
pub data Each {S A : Type 0} (P : S → A → Type 0) (next : S → A → S) : S → List A → Type 0 where
  Done : (s : S) → Each P next s []
  Then : (s : S) (a : A) (all : List A) → P s a → Each P next (next s a) all → Each P next s (a ∷ all)

module _ {S A : Type 0} (test : TokenV → Bool) (item : S → Reader A) (next : S → A → S) where
  abbrev put : A → List A × List TokenV → Outcome (List A)
  put a others = Ok (a ∷ others.0, others.1)

  abbrev then_others : ℕ → S → A × List TokenV → Outcome (List A)
  then_others k s first = repeated_to test item next k (next s first.0) first.1 >>= put first.0

  -- nothing, or an item and the others
  record More (k : ℕ) (s : S) (ts : List TokenV) (x : List A × List TokenV) : Type 0 where
    first : A × List TokenV
    others : List A × List TokenV
    first_read : item s ts ≡ Ok first
    others_read : repeated_to test item next k (next s first.0) first.1 ≡ Ok others
    is : (first.0 ∷ others.0, others.1) ≡ x

  parts_of : (k : ℕ) (s : S) (ts : List TokenV) (x : List A × List TokenV) → repeated_to test item next (suc k) s ts ≡ Ok x → (([], ts) ≡ x) ⊎ More k s ts x
  unfolding repeated_to
  parts_of k s ts x e = elim (chosen test (λ us. item s us >>= then_others k s) (λ us. Ok ([], us)) ts x e) [
    | inl h ↦
        let f = bind_ok (item s ts) (then_others k s) x h in
        let o = bind_ok (repeated_to test item next k (next s f.0.0) f.0.1) (put f.0.0) x f.2 in
        inr (record { first = f.0; others = o.0; first_read = f.1; others_read = o.1; is = same_ok (f.0.0 ∷ o.0.0, o.0.1) x o.2 })
    | inr h ↦ inl (same_ok ([], ts) x h)
  ]

  none_of : (s : S) (ts : List TokenV) (x : List A × List TokenV) → repeated_to test item next zero s ts ≡ Ok x → ([], ts) ≡ x
  unfolding repeated_to
  none_of s ts x e = same_ok ([], ts) x e

  abbrev items : List A × List TokenV → List A
  items y = y.0

  module _ (P : S → A → Type 0) (holds : (s : S) (ts : List TokenV) (x : A × List TokenV) → item s ts ≡ Ok x → P s x.0) where
    each_to : (k : ℕ) (s : S) (ts : List TokenV) (x : List A × List TokenV) → repeated_to test item next k s ts ≡ Ok x → Each P next s x.0
    each_to zero s ts x e = subst (Each P next s) (ap items (none_of s ts x e)) (Done s)
    each_to (suc k) s ts x e = elim (parts_of k s ts x e) [
      | inl h ↦ subst (Each P next s) (ap items h) (Done s)
      | inr m ↦ subst (Each P next s) (ap items m.is) (Then s m.first.0 m.others.0 (holds s ts m.first m.first_read) (each_to k (next s m.first.0) m.first.1 m.others m.others_read))
    ]

    pub each_read : (s : S) (ts : List TokenV) (x : List A × List TokenV) → repeated_under test item next s ts ≡ Ok x → Each P next s x.0
    unfolding repeated_under
    each_read s ts x e = each_to (length ts) s ts x e

  -- ---- how many there are

  module _ (size : A → ℕ) (takes : (s : S) (ts : List TokenV) (x : A × List TokenV) → item s ts ≡ Ok x → size x.0 + length x.1 ≤ length ts) where
    abbrev IsFew : List TokenV → List A × List TokenV → Type 0
    IsFew ts y = sum_by size y.0 + length y.1 ≤ length ts

    few_none : (ts : List TokenV) → IsFew ts ([], ts)
    few_none ts = omega arith

    few_to : (k : ℕ) (s : S) (ts : List TokenV) (x : List A × List TokenV) → repeated_to test item next k s ts ≡ Ok x → IsFew ts x
    few_to zero s ts x e = subst (IsFew ts) (none_of s ts x e) (few_none ts)
    few_to (suc k) s ts x e = elim (parts_of k s ts x e) [
      | inl h ↦ subst (IsFew ts) h (few_none ts)
      | inr m ↦
          let first = takes s ts m.first m.first_read in
          let others = few_to k (next s m.first.0) m.first.1 m.others m.others_read in
          let whole : IsFew ts (m.first.0 ∷ m.others.0, m.others.1) = omega (arith, sum_by-cons size m.first.0 m.others.0) in
          subst (IsFew ts) m.is whole
    ]

    pub few_read : (s : S) (ts : List TokenV) (x : List A × List TokenV) → repeated_under test item next s ts ≡ Ok x → sum_by size x.0 + length x.1 ≤ length ts
    unfolding repeated_under
    few_read s ts x e = few_to (length ts) s ts x e
