-- The laws of readings in a row, where what stands behind the last is known.
use Rattle.std.proofs.Common.{◌≡◌, ℕ, zero, suc, ◌+◌, ◌≤◌, length, arith, Bool, false, List, [], ◌∷◌, ◌++◌, Ok, refl, sym, ap, subst, ◌∙◌, ◌⊎◌, inl, inr}
use Rattle.std.proofs.lemmas.List.{append-nil, length-append}
use Rattle.ir_text.specs.Tokens.{TokenV}
use Rattle.ir_text.specs.Reading.{Reader, ◌>>=◌, gives, next_is}
use Rattle.ir_text.specs.Spelled.{Spelling, InTurn, nothing}
use Rattle.ir_text.specs.Lawful.{Follow, Lawful}
use Rattle.ir_text.specs.Choice.{Opens}
use Rattle.ir_text.specs.Repeated.{repeated_to, repeated_under, each_under}
use Rattle.ir_text.proofs.Laws.{nothing_laws, in_turn_before}
use Rattle.ir_text.proofs.Choices.{respell}
use Rattle.ir_text.proofs.ChoiceLaws.{choice}
use Rattle.ir_text.proofs.Persisting.{counted, shortens, Takers}
use Rattle.ir_text.proofs.RepeatedLaws.{enough}

-- nothing stands behind: what is read is spelled and the first fault is met, and no more is said
abbrev pub nowhere : Follow
nowhere rest = ⊥

module _ {S A : Type 0} (n : ℕ) (test : TokenV → Bool) (item : S → Reader A) (next : S → A → S) (spells : S → Spelling A) (between follow : Follow)
    (laws : (state : S) → Lawful n between (item state) (spells state))
    (opens : (state : S) (a : A) (ws : List TokenV) → spells state a ws → Opens test ws)
    (over : (rest : List TokenV) → follow rest → next_is test rest ≡ false)
    (comes : (state : S) (all : List A) (ws rest : List TokenV) → each_under spells next state all ws → follow rest → between (ws ++ rest)) where
  abbrev up_to : ℕ → S → Spelling (List A)
  up_to k state all ws = each_under spells next state all ws × (length all ≤ k)

  item_takes : (state : S) → Takers (spells state)
  item_takes state a ws s = let o = opens state a ws s in omega (arith, ap length o.parts)

  step : ℕ → S → Reader (List A)
  unfolding repeated_to
  step k state us = item state us >>= λ first. repeated_to test item next k (next state first.0) first.1 >>= λ others. Ok (first.0 ∷ others.0, others.1)

  abbrev step_spells : ℕ → S → Spelling (List A)
  step_spells k state = InTurn (spells state) (λ a. InTurn (up_to k (next state a)) (λ all. nothing (a ∷ all)))

  flat : (k : ℕ) (state : S) (a : A) (all : List A) (ws : List TokenV) (s : InTurn (up_to k state) (λ bs. nothing (a ∷ bs)) all ws) → ws ≡ s.front
  flat k state a all ws s = s.parts ∙ ap (λ (u : List TokenV). s.front ++ u) s.rest_spells.1 ∙ append-nil s.front

  to_step : (k : ℕ) (state : S) (all : List A) (ws : List TokenV) → nothing [] all ws ⊎ step_spells k state all ws → up_to (suc k) state all ws
  to_step k state all ws (inl s) = subst (λ (x : List A). up_to (suc k) state x ws) s.0 (s.1, omega arith)
  to_step k state all ws (inr s) =
      let one = s.rest_spells in
      let few = one.first_spells.1 in
      let whole = flat k (next state s.value) s.value all s.rest one in
      subst (λ (x : List A). up_to (suc k) state x ws) one.rest_spells.0
      (record { front = s.front; rest = one.front; parts = s.parts ∙ ap (λ (u : List TokenV). s.front ++ u) whole; first_spells = s.first_spells; rest_spells = one.first_spells.0 }, omega arith)

  from_step : (k : ℕ) (state : S) (all : List A) (ws : List TokenV) → up_to (suc k) state all ws → nothing [] all ws ⊎ step_spells k state all ws
  from_step k state [] ws s = inl (refl, s.0)
  from_step k state (a ∷ all) ws s =
      let short = s.1 in
      inr (record {
        value = a;
        front = s.0.front;
        rest = s.0.rest;
        parts = s.0.parts;
        first_spells = s.0.first_spells;
        rest_spells = record { value = all; front = s.0.rest; rest = []; parts = sym (append-nil s.0.rest); first_spells = (s.0.rest_spells, omega arith); rest_spells = (refl, refl) };
      })

  none_to : (state : S) (all : List A) (ws : List TokenV) → nothing [] all ws → up_to 0 state all ws
  none_to state all ws s = subst (λ (x : List A). up_to 0 state x ws) s.0 (s.1, omega arith)

  none_from : (state : S) (all : List A) (ws : List TokenV) → up_to 0 state all ws → nothing [] all ws
  none_from state [] ws s = (refl, s.0)
  none_from state (a ∷ all) ws s = let short = s.1 in absurd (omega arith)

  step_opens : (k : ℕ) (state : S) (all : List A) (ws : List TokenV) → step_spells k state all ws → Opens test ws
  step_opens k state all ws s =
      let o = opens state s.value s.front s.first_spells in
      record { token = o.token; rest = o.rest ++ s.rest; parts = s.parts ∙ ap (λ (u : List TokenV). u ++ s.rest) o.parts; is = o.is }

  some_laws : (k : ℕ) (state : S) → Lawful n follow (repeated_to test item next k state) (up_to k state)
  unfolding repeated_to step
  some_laws zero state = respell n follow (λ ts. Ok ([], ts)) (nothing []) (up_to 0 state) (none_to state) (none_from state) (nothing_laws n follow [])
  some_laws (suc k) state =
      respell n follow (repeated_to test item next (suc k) state) (λ all ws. nothing [] all ws ⊎ step_spells k state all ws) (up_to (suc k) state) (to_step k state) (from_step k state)
      (choice n test follow follow follow (step k state) (gives []) (step_spells k state) (nothing [])
      (in_turn_before n between follow (item state) (λ a us. repeated_to test item next k (next state a) us >>= λ others. Ok (a ∷ others.0, others.1)) (spells state) _ (laws state)
      (λ a. in_turn_before n follow follow (repeated_to test item next k (next state a)) (λ all us. Ok (a ∷ all, us)) (up_to k (next state a)) _ (some_laws k (next state a)) (λ all. nothing_laws n follow (a ∷ all)) (λ all bs ws rest s b. rw s.1 b))
      (λ a all ws rest s b. subst between (sym (ap (λ (u : List TokenV). u ++ rest) (flat k (next state a) a all ws s))) (comes (next state a) s.value s.front rest s.first_spells.0 b)))
      (nothing_laws n follow []) (step_opens k state) (λ all ws rest s b. rw s.1 (over rest b)) (λ rest b. b) (λ rest b. b))

  few : (state : S) (all : List A) (ws : List TokenV) → each_under spells next state all ws → length all ≤ length ws
  few state [] ws s = omega arith
  few state (a ∷ all) ws s =
      let one = item_takes state a s.front s.first_spells in
      let others = few (next state a) all s.rest s.rest_spells in
      let size : length ws ≡ length s.front + length s.rest = ap length s.parts ∙ length-append s.front s.rest in
      omega arith

  pub row_laws : (state : S) → Lawful n follow (repeated_under test item next state) (each_under spells next state)
  unfolding repeated_under
  row_laws state = counted n follow (λ k. repeated_to test item next k state) (each_under spells next state)
      (λ k m ts le lt. enough test item next (λ s ts x e. shortens n between (item s) (spells s) (laws s) (item_takes s) ts x e) k m state ts le lt)
      (λ k le. bounded k le (some_laws k state))
    where
      bounded : (k : ℕ) → n ≤ k → Lawful n follow (repeated_to test item next k state) (up_to k state) → Lawful n follow (repeated_to test item next k state) (each_under spells next state)
      bounded k le one = record {
        sound = λ ts x e. let t = one.sound ts x e in record { front = t.front; parts = t.parts; spelled = t.spelled.0; again = t.again; alone = t.alone };
        complete = λ a ws rest short s f. one.complete a ws rest short (s, (let less = few state a ws s in omega arith)) f;
        faults = one.faults;
        begins = one.begins;
      }
