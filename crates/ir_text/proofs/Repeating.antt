-- Readings in a row, as long as the next token passes a test, keep the laws.
use Rattle.std.proofs.Common.{◌≡◌, ℕ, zero, suc, ◌≤◌, length, arith, Bool, false, List, [], ◌∷◌, ◌++◌, Ok, refl, sym, ap, subst, ◌∙◌, append_assoc, ◌⊎◌, inl, inr}
use Rattle.ir_text.specs.Tokens.{TokenV}
use Rattle.ir_text.specs.Reading.{Reader, ◌>>=◌, gives, next_is}
use Rattle.ir_text.specs.Spelled.{Spelling, InTurn, nothing}
use Rattle.ir_text.specs.Lawful.{Follow, Behind, Lawful}
use Rattle.ir_text.specs.Choice.{Opens}
use Rattle.ir_text.specs.Repeated.{repeated_to, each_under}
use Rattle.ir_text.proofs.Laws.{nothing_laws, in_turn_before}
use Rattle.ir_text.proofs.Choices.{respell}
use Rattle.ir_text.proofs.ChoiceLaws.{choice}
use Rattle.ir_text.proofs.Persisting.{Takers}

module _ {S A : Type 0} (n : ℕ) (test : TokenV → Bool) (item : S → Reader A) (next : S → A → S) (spells : S → Spelling A) (between : Follow)
    (laws : (state : S) → Lawful n between (item state) (spells state))
    (opens : (state : S) (a : A) (ws : List TokenV) → spells state a ws → Opens test ws)
    (followed : (state : S) (a : A) (ws rest : List TokenV) → spells state a ws → between (ws ++ rest)) where
  abbrev up_to : ℕ → S → Spelling (List A)
  up_to k state all ws = each_under spells next state all ws × (length all ≤ k)

  pub takes : (state : S) → Takers (spells state)
  takes state a ws s = let o = opens state a ws s in omega (arith, ap length o.parts)

  step : ℕ → S → Reader (List A)
  unfolding repeated_to
  step k state us = item state us >>= λ first. repeated_to test item next k (next state first.0) first.1 >>= λ others. Ok (first.0 ∷ others.0, others.1)

  abbrev step_spells : ℕ → S → Spelling (List A)
  step_spells k state = InTurn (spells state) (λ a. InTurn (up_to k (next state a)) (λ all. nothing (a ∷ all)))

  comes : (state : S) (all : List A) (ws rest : List TokenV) → each_under spells next state all ws → (Behind test between) rest → between (ws ++ rest)
  comes state [] ws rest s b = rw s b.fits
  comes state (a ∷ all) ws rest s b =
      let is : ws ++ rest ≡ s.front ++ (s.rest ++ rest) = ap (λ (u : List TokenV). u ++ rest) s.parts ∙ append_assoc s.front s.rest rest in
      subst between (sym is) (followed state a s.front (s.rest ++ rest) s.first_spells)

  to_each : (k : ℕ) (state : S) (all : List A) (ws : List TokenV) → nothing [] all ws ⊎ step_spells k state all ws → up_to (suc k) state all ws
  to_each k state [] ws (inl s) = (s.1, omega arith)
  to_each k state (a ∷ all) ws (inl s) = absurd (let e = s.0 in cc)
  to_each k state [] ws (inr s) = absurd (let e = s.rest_spells.rest_spells.0 in cc)
  to_each k state (a ∷ all) ws (inr s) =
      let one = s.rest_spells in
      let e : s.value ∷ one.value ≡ a ∷ all = one.rest_spells.0 in
      let first : s.value ≡ a = cc in
      let others : one.value ≡ all = cc in
      let none : one.rest ≡ [] = one.rest_spells.1 in
      let whole : s.rest ≡ one.front = one.parts ∙ ap (λ (u : List TokenV). one.front ++ u) none ∙ append-nil one.front in (
        record {
          front = s.front;
          rest = one.front;
          parts = s.parts ∙ ap (λ (u : List TokenV). s.front ++ u) whole;
          first_spells = subst (λ (x : A). spells state x s.front) first s.first_spells;
          rest_spells = moved s.value a one.value all one.front first others one.first_spells.0;
        },
        (let short = one.first_spells.1 in let size : length one.value ≡ length all = ap length others in omega arith),
      )
    where
      append-nil : (xs : List TokenV) → xs ++ [] ≡ xs
      append-nil [] = refl
      append-nil (x ∷ xs) = ap (λ (u : List TokenV). x ∷ u) (append-nil xs)

      moved : (b a : A) (bs all : List A) (ws : List TokenV) → b ≡ a → bs ≡ all → each_under spells next (next state b) bs ws → each_under spells next (next state a) all ws
      moved b a bs all ws e d s = subst (λ (x : A). each_under spells next (next state x) all ws) e (subst (λ (xs : List A). each_under spells next (next state b) xs ws) d s)

  from_each : (k : ℕ) (state : S) (all : List A) (ws : List TokenV) → up_to (suc k) state all ws → nothing [] all ws ⊎ step_spells k state all ws
  from_each k state [] ws s = inl (refl, s.0)
  from_each k state (a ∷ all) ws s =
      let short = s.1 in
      inr (record {
        value = a;
        front = s.0.front;
        rest = s.0.rest;
        parts = s.0.parts;
        first_spells = s.0.first_spells;
        rest_spells = record { value = all; front = s.0.rest; rest = []; parts = sym (append-nil s.0.rest); first_spells = (s.0.rest_spells, omega arith); rest_spells = (refl, refl) };
      })
    where
      append-nil : (xs : List TokenV) → xs ++ [] ≡ xs
      append-nil [] = refl
      append-nil (x ∷ xs) = ap (λ (u : List TokenV). x ∷ u) (append-nil xs)

  step_opens : (k : ℕ) (state : S) (all : List A) (ws : List TokenV) → step_spells k state all ws → Opens test ws
  step_opens k state all ws s =
      let o = opens state s.value s.front s.first_spells in
      record { token = o.token; rest = o.rest ++ s.rest; parts = s.parts ∙ ap (λ (u : List TokenV). u ++ s.rest) o.parts; is = o.is }

  none_spelled : (all : List A) (ws rest : List TokenV) → nothing [] all ws → (Behind test between) rest → next_is test (ws ++ rest) ≡ false
  none_spelled all ws rest s b = rw s.1 b.none

  zero_laws : (state : S) → Lawful n (Behind test between) (repeated_to test item next 0 state) (up_to 0 state)
  unfolding repeated_to
  zero_laws state = respell n (Behind test between) (λ ts. Ok ([], ts)) (nothing []) (up_to 0 state) to from (nothing_laws n (Behind test between) [])
    where
      to : (all : List A) (ws : List TokenV) → nothing [] all ws → up_to 0 state all ws
      to [] ws s = (s.1, omega arith)
      to (a ∷ all) ws s = absurd (let e = s.0 in cc)

      from : (all : List A) (ws : List TokenV) → up_to 0 state all ws → nothing [] all ws
      from [] ws s = (refl, s.0)
      from (a ∷ all) ws s = let short = s.1 in absurd (omega arith)

  pub many_laws : (k : ℕ) (state : S) → Lawful n (Behind test between) (repeated_to test item next k state) (up_to k state)
  unfolding repeated_to step
  many_laws zero state = zero_laws state
  many_laws (suc k) state =
      respell n (Behind test between) (repeated_to test item next (suc k) state) (λ all ws. nothing [] all ws ⊎ step_spells k state all ws) (up_to (suc k) state) (to_each k state) (from_each k state)
      (choice n test (Behind test between) (Behind test between) (Behind test between) (step k state) (gives []) (step_spells k state) (nothing [])
      (in_turn_before n between (Behind test between) (item state) (λ a us. repeated_to test item next k (next state a) us >>= λ others. Ok (a ∷ others.0, others.1)) (spells state) _ (laws state)
      (λ a. in_turn_before n (Behind test between) (Behind test between) (repeated_to test item next k (next state a)) (λ all us. Ok (a ∷ all, us)) (up_to k (next state a)) _ (many_laws k (next state a)) (λ all. nothing_laws n (Behind test between) (a ∷ all)) (λ all bs ws rest s b. rw s.1 b))
      (λ a all ws rest s b. subst between (sym (ap (λ (u : List TokenV). u ++ rest) (flat s))) (comes (next state a) s.value s.front rest s.first_spells.0 b)))
      (nothing_laws n (Behind test between) []) (step_opens k state) none_spelled (λ rest b. b) (λ rest b. b))
    where
      append-nil : (xs : List TokenV) → xs ++ [] ≡ xs
      append-nil [] = refl
      append-nil (x ∷ xs) = ap (λ (u : List TokenV). x ∷ u) (append-nil xs)

      flat : {a : A} {all : List A} {ws : List TokenV} (s : InTurn (up_to k (next state a)) (λ bs. nothing (a ∷ bs)) all ws) → ws ≡ s.front
      flat s = s.parts ∙ ap (λ (u : List TokenV). s.front ++ u) s.rest_spells.1 ∙ append-nil s.front
