-- Readings that agree on few tokens.
use Rattle.std.proofs.Common.{◌≡◌, ℕ, zero, suc, ◌+◌, ◌≤◌, length, arith, Bool, cond, List, [], ◌∷◌, Ok, Err, refl, ap, subst, ◌∙◌}
use Rattle.std.proofs.lemmas.List.{length-append}
use Rattle.ir_text.specs.Tokens.{TokenV, is_mark}
use Rattle.ir_text.specs.Reading.{Outcome, Reader, ◌>>=◌, next_is}
use Rattle.ir_text.specs.Spelled.{Spelling}
use Rattle.ir_text.specs.Lawful.{Follow, anything, Lawful}
use Rattle.ir_text.specs.Leaves.{mark, mark_at}
use Rattle.ir_text.specs.Repeated.{repeated_to, repeated_under, repeated, stays}
use Rattle.ir_text.specs.Lists.{after_comma, listed_at, mark_for, list_at}
use Rattle.ir_text.proofs.Choices.{token_laws}

pub bind_agree : {A B : Type 0} (o p : Outcome A) (f g : A × List TokenV → Outcome B) → o ≡ p → ((x : A × List TokenV) → o ≡ Ok x → f x ≡ g x) → (o >>= f) ≡ (p >>= g)
bind_agree {A} {B} (Ok x) p f g e h = subst (λ (q : Outcome A). f x ≡ (q >>= g)) e (h x refl)
bind_agree {A} {B} (Err d) p f g e h = subst (λ (q : Outcome A). (Err d >>= f) ≡ (q >>= g)) e refl

-- what is left is no longer
pub keeps : {A : Type 0} (n : ℕ) (follow : Follow) (r : Reader A) (s : Spelling A) → Lawful n follow r s → (ts : List TokenV) (x : A × List TokenV) → r ts ≡ Ok x → length x.1 ≤ length ts
keeps n follow r s laws ts x e =
    let one = laws.sound ts x e in
    let size : length ts ≡ length one.front + length x.1 = ap length one.parts ∙ length-append one.front x.1 in
    omega arith

abbrev pub Agree : {A : Type 0} → ℕ → Reader A → Reader A → Type 0
Agree k r q = (ts : List TokenV) → length ts ≤ k → r ts ≡ q ts

abbrev pub Shortens : {A : Type 0} → Reader A → Type 0
Shortens {A} r = (ts : List TokenV) (x : A × List TokenV) → r ts ≡ Ok x → 1 + length x.1 ≤ length ts

pub mark_keeps : (b : ℕ) (ts : List TokenV) (x : Unit {0} × List TokenV) → mark_at b ts ≡ Ok x → length x.1 ≤ length ts
mark_keeps b ts x e = keeps 0 anything (mark_at b) _ (token_laws 0 (mark b)) ts x e

bind_keeps : {A B : Type 0} (n : ℕ) (o : Outcome A) (f : A × List TokenV → Outcome B) (x : B × List TokenV) → ((a : A × List TokenV) → o ≡ Ok a → length a.1 ≤ n) → ((a : A × List TokenV) → length a.1 ≤ n → f a ≡ Ok x → 1 + length x.1 ≤ n) → (o >>= f) ≡ Ok x → 1 + length x.1 ≤ n
bind_keeps n (Ok a) f x one two e = two a (one a refl) e
bind_keeps n (Err d) f x one two e = absurd cc

module _ {A : Type 0} (k : ℕ) (r q : Reader A) (same : Agree k r q) (less : Shortens r) where
  pub comma_agree : Agree k (after_comma r) (after_comma q)
  comma_agree ts few = bind_agree (mark_at 44 ts) (mark_at 44 ts) _ _ refl (λ x e. let fewer = mark_keeps 44 ts x e in same x.1 (omega arith))

  pub comma_less : Shortens (after_comma r)
  comma_less ts x e = bind_keeps (length ts) (mark_at 44 ts) (λ c. r c.1) x (mark_keeps 44 ts) (λ a few h. let fewer = less a.1 x h in omega arith) e

  many_agree : (n : ℕ) → Agree k (repeated_to (is_mark 44) (λ _. after_comma r) stays n tt) (repeated_to (is_mark 44) (λ _. after_comma q) stays n tt)
  unfolding repeated_to
  many_agree zero ts few = refl
  many_agree (suc n) ts few =
      let one : (after_comma r ts >>= λ first. repeated_to (is_mark 44) (λ _. after_comma r) stays n tt first.1 >>= λ others. Ok (first.0 ∷ others.0, others.1))
      ≡ (after_comma q ts >>= λ first. repeated_to (is_mark 44) (λ _. after_comma q) stays n tt first.1 >>= λ others. Ok (first.0 ∷ others.0, others.1)) =
      bind_agree (after_comma r ts) (after_comma q ts) _ _ (comma_agree ts few) (λ x e.
      let fewer : 1 + length x.1 ≤ length ts = comma_less ts x e in
      ap (λ (o : Outcome (List A)). o >>= λ others. Ok (x.0 ∷ others.0, others.1)) (many_agree n x.1 (omega arith))) in
      ap (λ (o : Outcome (List A)). cond (next_is (is_mark 44) ts) o (Ok ([], ts))) one

  commas_agree : Agree k (repeated (is_mark 44) (after_comma r)) (repeated (is_mark 44) (after_comma q))
  unfolding repeated_under
  commas_agree ts few = many_agree (length ts) ts few

  pub listed_agree : Agree k (listed_at r) (listed_at q)
  listed_agree ts few =
      bind_agree (r ts) (q ts) _ _ (same ts few) (λ x e.
      let fewer : 1 + length x.1 ≤ length ts = less ts x e in
      ap (λ (o : Outcome (List A)). o >>= λ others. Ok (x.0 ∷ others.0, others.1)) (commas_agree x.1 (omega arith)))

  pub list_agree : (close : ℕ) → Agree k (list_at close r) (list_at close q)
  unfolding list_at
  list_agree close ts few =
      ap (λ (o : Outcome (List A)). cond (next_is (is_mark close) ts) (mark_for close [] ts) (o >>= λ all. mark_for close all.0 all.1)) (listed_agree ts few)

-- items under what those before them left
module _ {S A : Type 0} (k : ℕ) (test : TokenV → Bool) (r q : S → Reader A) (next : S → A → S) (same : (s : S) → Agree k (r s) (q s)) (less : (s : S) → Shortens (r s)) where
  many_under : (n : ℕ) (s : S) → Agree k (repeated_to test r next n s) (repeated_to test q next n s)
  unfolding repeated_to
  many_under zero s ts few = refl
  many_under (suc n) s ts few =
      let one : (r s ts >>= λ first. repeated_to test r next n (next s first.0) first.1 >>= λ others. Ok (first.0 ∷ others.0, others.1))
      ≡ (q s ts >>= λ first. repeated_to test q next n (next s first.0) first.1 >>= λ others. Ok (first.0 ∷ others.0, others.1)) =
      bind_agree (r s ts) (q s ts) _ _ (same s ts few) (λ x e.
      let fewer : 1 + length x.1 ≤ length ts = less s ts x e in
      ap (λ (o : Outcome (List A)). o >>= λ others. Ok (x.0 ∷ others.0, others.1)) (many_under n (next s x.0) x.1 (omega arith))) in
      ap (λ (o : Outcome (List A)). cond (next_is test ts) o (Ok ([], ts))) one

  pub under_agree : (s : S) → Agree k (repeated_under test r next s) (repeated_under test q next s)
  unfolding repeated_under
  under_agree s ts few = many_under (length ts) s ts few
