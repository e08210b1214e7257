-- A choice by the next token keeps the laws.
use Rattle.std.proofs.Common.{◌≡◌, ℕ, ◌≤◌, length, Bool, true, false, List, [], ◌∷◌, ◌++◌, Ok, Err, refl, sym, ap, subst, ◌∙◌, ◌⊎◌, inl, inr}
use Rattle.std.proofs.lemmas.Bool.{cases_Bool}
use Rattle.ir_lex.specs.declared.token.Cause.{Cause}
use Rattle.ir_text.specs.declared.fault.Fault.TheVariants.{At}
use Rattle.ir_text.specs.Tokens.{TokenV}
use Rattle.ir_text.specs.Reading.{Reader, next_is}
use Rattle.ir_text.specs.Spelled.{Spelling, InTurn, nothing, one_token}
use Rattle.ir_text.specs.Leaves.{tested}
use Rattle.ir_text.specs.Lawful.{Follow, Behind, Unfaulted, SameNext, Takes, WrongAt, Lawful}
use Rattle.ir_text.specs.Choice.{choose, Opens}
use Rattle.ir_text.proofs.Laws.{nothing_laws}

module _ {A : Type 0} (n : ℕ) (test : TokenV → Bool) (one two follow : Follow) (r q : Reader A) (s t : Spelling A) (first : Lawful n one r s) (second : Lawful n two q t)
    (opens : (a : A) (ws : List TokenV) → s a ws → Opens test ws) (otherwise : (a : A) (ws rest : List TokenV) → t a ws → follow rest → next_is test (ws ++ rest) ≡ false)
    (to_one : (rest : List TokenV) → follow rest → one rest) (to_two : (rest : List TokenV) → follow rest → two rest) where
  abbrev both : Reader A
  both ts = choose test r q ts

  abbrev either : Spelling A
  either a ws = t a ws ⊎ s a ws

  is_first : (ts : List TokenV) → next_is test ts ≡ true → both ts ≡ r ts
  is_first ts e = rw e refl

  is_second : (ts : List TokenV) → next_is test ts ≡ false → both ts ≡ q ts
  is_second ts e = rw e refl

  at_none : both [] ≡ q []
  unfolding next_is
  at_none = refl

  head : (b : Bool) (us vs : List TokenV) → SameNext us vs → next_is test us ≡ b → next_is test vs ≡ b
  unfolding next_is
  head b us vs same e =
      let here : next_is test us ≡ test same.token = ap (next_is test) same.ts_is in
      let there : next_is test vs ≡ test same.token = ap (next_is test) same.us_is in
      there ∙ sym here ∙ e

  no_first : next_is test [] ≡ true → ⊥
  unfolding next_is
  no_first e = absurd cc

  -- a front of tokens that begin with one for a reading, or none
  front_first : (us : List TokenV) (v : TokenV) (vs : List TokenV) → next_is test (us ++ v ∷ vs) ≡ true → (us ≡ []) ⊎ (both us ≡ r us)
  unfolding next_is
  front_first [] v vs e = inl refl
  front_first (u ∷ us) v vs e = inr (is_first (u ∷ us) e)

  front_second : (us vs : List TokenV) → next_is test (us ++ vs) ≡ false → both us ≡ q us
  unfolding next_is
  front_second [] vs e = refl
  front_second (u ∷ us) vs e = is_second (u ∷ us) e

  opened : (ws rest : List TokenV) → Opens test ws → next_is test (ws ++ rest) ≡ true
  unfolding next_is
  opened ws rest o = ap (λ (u : List TokenV). next_is test (u ++ rest)) o.parts ∙ o.is

  opened_alone : (ws : List TokenV) → Opens test ws → next_is test ws ≡ true
  unfolding next_is
  opened_alone ws o = ap (next_is test) o.parts ∙ o.is

  shared : (ws rest others : List TokenV) → SameNext rest others → SameNext (ws ++ rest) (ws ++ others)
  shared [] rest others same = same
  shared (w ∷ ws) rest others same = record { token = w; ts_rest = ws ++ rest; us_rest = ws ++ others; ts_is = refl; us_is = refl }

  choice_sound : (ts : List TokenV) (x : A × List TokenV) → both ts ≡ Ok x → Takes both either ts x.0 x.1
  choice_sound ts x e =
      elim (cases_Bool (next_is test ts)) [
        | inl this ↦
            let one = first.sound ts x (sym (is_first ts this) ∙ e) in
            let o = opens x.0 one.front one.spelled in
            record {
              front = one.front;
              parts = one.parts;
              spelled = inr one.spelled;
              again = λ others same. is_first (one.front ++ others) (opened one.front others o) ∙ one.again others same;
              alone = elim one.alone [
                | inl all ↦ inl (is_first one.front (opened_alone one.front o) ∙ all)
                | inr more ↦ inr (is_first one.front (opened_alone one.front o) ∙ more)
              ];
            }
        | inr other ↦
            let one = second.sound ts x (sym (is_second ts other) ∙ e) in
            let here : next_is test (one.front ++ x.1) ≡ false = ap (next_is test) (sym one.parts) ∙ other in
            record {
              front = one.front;
              parts = one.parts;
              spelled = inl one.spelled;
              again = λ others same. is_second (one.front ++ others) (head false (one.front ++ x.1) (one.front ++ others) (shared one.front x.1 others same) here) ∙ one.again others same;
              alone = elim one.alone [
                | inl all ↦ inl (front_second one.front x.1 here ∙ all)
                | inr more ↦ inr (front_second one.front x.1 here ∙ more)
              ];
            }
      ]

  choice_complete : (a : A) (ws rest : List TokenV) → length ws ≤ n → either a ws → follow rest → both (ws ++ rest) ≡ Ok (a, rest)
  choice_complete a ws rest short (inl spelled) f = is_second (ws ++ rest) (otherwise a ws rest spelled f) ∙ second.complete a ws rest short spelled (to_two rest f)
  choice_complete a ws rest short (inr spelled) f = is_first (ws ++ rest) (opened ws rest (opens a ws spelled)) ∙ first.complete a ws rest short spelled (to_one rest f)

  -- nothing is wrong in a front where nothing is for the reading that is chosen
  open_first : (us : List TokenV) → (us ≡ []) ⊎ (both us ≡ r us) → Unfaulted (r us) → Unfaulted (both us)
  open_first us (inl none) o = subst (λ (u : List TokenV). Unfaulted (both u)) (sym none) (elim second.begins [
    | inl all ↦ inl (all.0, at_none ∙ all.1)
    | inr more ↦ inr (at_none ∙ more)
  ])
  open_first us (inr is) o = elim o [
    | inl all ↦ inl (all.0, is ∙ all.1)
    | inr more ↦ inr (is ∙ more)
  ]

  open_second : (us : List TokenV) → both us ≡ q us → Unfaulted (q us) → Unfaulted (both us)
  open_second us is o = elim o [
    | inl all ↦ inl (all.0, is ∙ all.1)
    | inr more ↦ inr (is ∙ more)
  ]

  same_last : (us : List TokenV) (v : TokenV) (vs ws : List TokenV) → SameNext (us ++ v ∷ vs) (us ++ v ∷ ws)
  same_last [] v vs ws = record { token = v; ts_rest = vs; us_rest = ws; ts_is = refl; us_is = refl }
  same_last (u ∷ us) v vs ws = record { token = u; ts_rest = us ++ v ∷ vs; us_rest = us ++ v ∷ ws; ts_is = refl; us_is = refl }

  choice_faults : (ts : List TokenV) (line : ℕ) (cause : Cause) → length ts ≤ n → both ts ≡ Err (At line cause) → WrongAt both ts line cause
  choice_faults ts line cause short e =
      elim (cases_Bool (next_is test ts)) [
        | inl this ↦
            let w = first.faults ts line cause short (sym (is_first ts this) ∙ e) in
            let here : next_is test (w.front ++ w.token ∷ w.rest) ≡ true = ap (next_is test) (sym w.parts) ∙ this in
            record {
              front = w.front;
              token = w.token;
              rest = w.rest;
              parts = w.parts;
              on_line = w.on_line;
              still_open = open_first w.front (front_first w.front w.token w.rest here) w.still_open;
              stays = λ more. is_first (w.front ++ w.token ∷ more) (head true (w.front ++ w.token ∷ w.rest) (w.front ++ w.token ∷ more) (same_last w.front w.token w.rest more) here) ∙ w.stays more;
            }
        | inr other ↦
            let w = second.faults ts line cause short (sym (is_second ts other) ∙ e) in
            let here : next_is test (w.front ++ w.token ∷ w.rest) ≡ false = ap (next_is test) (sym w.parts) ∙ other in
            record {
              front = w.front;
              token = w.token;
              rest = w.rest;
              parts = w.parts;
              on_line = w.on_line;
              still_open = open_second w.front (front_second w.front (w.token ∷ w.rest) here) w.still_open;
              stays = λ more. is_second (w.front ++ w.token ∷ more) (head false (w.front ++ w.token ∷ w.rest) (w.front ++ w.token ∷ more) (same_last w.front w.token w.rest more) here) ∙ w.stays more;
            }
      ]

  pub choice : Lawful n follow both either
  choice = record { sound = choice_sound; complete = choice_complete; faults = choice_faults; begins = open_second [] at_none second.begins }

-- ---- what may be left out

module _ {A : Type 0} (n : ℕ) (test : TokenV → Bool) (last : Follow) (r : Reader A) (a : A) (s : Spelling A) (laws : Lawful n last r s) (opens : (b : A) (ws : List TokenV) → s b ws → Opens test ws) where
  left_out : (b : A) (ws rest : List TokenV) → nothing a b ws → Behind test last rest → next_is test (ws ++ rest) ≡ false
  left_out b ws rest s f = rw s.1 f.none

  pub optional : Lawful n (Behind test last) (choose test r (λ ts. Ok (a, ts))) (λ b ws. nothing a b ws ⊎ s b ws)
  optional = choice n test last (Behind test last) (Behind test last) r (λ ts. Ok (a, ts)) s (nothing a) laws (nothing_laws n (Behind test last) a) opens left_out (λ rest f. f.fits) (λ rest f. f)

-- ---- tokens that pass a test

tested_is : (b : Bool) (cause : Cause) (u : Unit {0}) → tested b cause ≡ Ok u → b ≡ true
tested_is true cause u e = refl
tested_is false cause u e = absurd cc

pub token_opens : (test : TokenV → Bool) (cause : TokenV → Cause) (u : Unit {0}) (ws : List TokenV) → one_token (λ t. tested (test t) (cause t)) u ws → Opens test ws
token_opens test cause u ws s = record { token = s.token; rest = []; parts = s.parts; is = tested_is (test s.token) (cause s.token) u s.is }

pub opens_more : {A B : Type 0} (test : TokenV → Bool) (s : Spelling A) (q : A → Spelling B) → ((a : A) (ws : List TokenV) → s a ws → Opens test ws) → (b : B) (ws : List TokenV) → InTurn s q b ws → Opens test ws
opens_more test s q opens b ws t =
    let o = opens t.value t.front t.first_spells in
    record { token = o.token; rest = o.rest ++ t.rest; parts = t.parts ∙ ap (λ (u : List TokenV). u ++ t.rest) o.parts; is = o.is }
