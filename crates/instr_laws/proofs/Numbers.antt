-- A number behind a word: what stands behind it says whether it is the value.
use Rattle.std.proofs.Common.{◌≡◌, ℕ, suc, ◌≤◌, length, arith, Bool, true, false, cond, List, [], ◌∷◌, ◌++◌, Result, Ok, Err, refl, sym, ap, subst, ◌∙◌, ◌⊎◌, inl, inr}
use Rattle.std.specs.Prelude.{not}
use Rattle.std.proofs.lemmas.Bool.{cases_Bool, not-true}
use Rattle.ir_lex.specs.declared.token.Cause.{Cause}
use Rattle.ir_lex.specs.declared.token.Cause.TheVariants as causes
use Rattle.ir_text.specs.declared.fault.Fault.{Fault}
use Rattle.ir_text.specs.declared.fault.Fault.TheVariants.{At, Ended}
use Rattle.ir_text.specs.Tokens.{TokenV, blamed}
use Rattle.ir_text.specs.Reading.{Outcome, Reader, Meaning, meant, next_is}
use Rattle.ir_text.specs.Spelled.{Spelling, one_token}
use Rattle.ir_text.specs.Choice.{Opens}
use Rattle.ir_text.specs.Lawful.{ReadsAll, Unfaulted, SameNext, Takes, WrongAt, Lawful}
use Rattle.ir_text.specs.Leaves.{tested}
use Rattle.ir_text.specs.Passed.{is_integer, some_integer}
use Rattle.ir_text.specs.Repeated.{Both}
use Rattle.ir_text.proofs.Laws.{line_behind}
use Rattle.instr_laws.specs.Behind.{ends_argument, BehindArgument}

tested_true : (b : Bool) (u : Unit {0}) → tested b causes.Operand ≡ Ok u → b ≡ true
tested_true true u e = refl
tested_true false u e = absurd cc

pub integer_token : (t : TokenV) → is_integer t ≡ true → one_token some_integer tt (t ∷ [])
integer_token t e = record { token = t; parts = refl; is = rw e refl }

pub token_integer : (ws : List TokenV) (s : one_token some_integer tt ws) → is_integer s.token ≡ true
token_integer ws s = tested_true (is_integer s.token) tt s.is

module _ {A : Type 0} (n : ℕ) (r : Reader A) (s : Spelling A) (means : Meaning A) (laws : Lawful n BehindArgument r s)
    (reads : (t : TokenV) (rest : List TokenV) → is_integer t ≡ true → r (t ∷ rest) ≡ meant (means t) t rest)
    (single : (a : A) (t : TokenV) (ws : List TokenV) → is_integer t ≡ true → s a (t ∷ ws) → ws ≡ [])
    (starts : (a : A) (ws : List TokenV) → s a ws → Opens (λ t. not (ends_argument t)) ws) where
  abbrev pub by_next : TokenV → Reader A
  by_next t [] = Err Ended
  by_next t (u ∷ more) = cond (ends_argument u) (r (t ∷ u ∷ more)) (r (u ∷ more))

  -- a number, and what follows
  abbrev pub number_first : Reader A
  number_first [] = Err Ended
  number_first (t ∷ rest) = cond (is_integer t) (by_next t rest) (Err Ended)

  abbrev pub a_number_first : Spelling A
  a_number_first a ws = (s a ws × Opens is_integer ws) ⊎ Both (one_token some_integer tt) (s a) ws

  ended : (t : TokenV) → number_first (t ∷ []) ≡ Err Ended
  ended t = by_test (is_integer t)
    where
      err : Outcome A
      err = Err Ended

      by_test : (b : Bool) → cond b err err ≡ err
      by_test true = refl
      by_test false = refl

  value_at : (t u : TokenV) (more : List TokenV) → is_integer t ≡ true → ends_argument u ≡ true → number_first (t ∷ u ∷ more) ≡ r (t ∷ u ∷ more)
  value_at t u more number ends = rw (number, ends) refl

  passed_at : (t u : TokenV) (more : List TokenV) → is_integer t ≡ true → ends_argument u ≡ false → number_first (t ∷ u ∷ more) ≡ r (u ∷ more)
  passed_at t u more number goes = rw (number, goes) refl

  no_number : (t : TokenV) (rest : List TokenV) → is_integer t ≡ false → number_first (t ∷ rest) ≡ Err Ended
  no_number t rest none = rw none refl

  -- ---- what is read is spelled

  module _ (t u : TokenV) (more : List TokenV) (number : is_integer t ≡ true) (x : A × List TokenV) where
    value_takes : ends_argument u ≡ true → r (t ∷ u ∷ more) ≡ Ok x → Takes number_first a_number_first (t ∷ u ∷ more) x.0 x.1
    value_takes ends e =
        let one = laws.sound (t ∷ u ∷ more) x e in
        from one.front one.parts one.spelled one.again
      where
        from : (front : List TokenV) → t ∷ u ∷ more ≡ front ++ x.1 → s x.0 front → ((others : List TokenV) → SameNext x.1 others → r (front ++ others) ≡ Ok (x.0, others)) → Takes number_first a_number_first (t ∷ u ∷ more) x.0 x.1
        from [] parts spelled again = let o = starts x.0 [] spelled in let none : [] ≡ o.token ∷ o.rest = o.parts in absurd cc
        from (v ∷ vs) parts spelled again =
            let first : t ≡ v = cc in
            let digits : is_integer v ≡ true = ap is_integer (sym first) ∙ number in
            let alone : vs ≡ [] = single x.0 v vs digits spelled in
            let rest : u ∷ more ≡ vs ++ x.1 = cc in
            let behind : u ∷ more ≡ x.1 = rest ∙ ap (λ (w : List TokenV). w ++ x.1) alone in
            record {
              front = t ∷ [];
              parts = ap (λ (w : List TokenV). t ∷ w) behind;
              spelled = inl (subst (λ (w : List TokenV). s x.0 (t ∷ w)) alone (subst (λ (y : TokenV). s x.0 (y ∷ vs)) (sym first) spelled), record { token = t; rest = []; parts = refl; is = number });
              again = λ others same. next others same behind first alone again;
              alone = inr (ended t);
            }
          where
            next : (others : List TokenV) → SameNext x.1 others → u ∷ more ≡ x.1 → t ≡ v → vs ≡ [] → ((others : List TokenV) → SameNext x.1 others → r ((v ∷ vs) ++ others) ≡ Ok (x.0, others)) → number_first (t ∷ others) ≡ Ok (x.0, others)
            next others same behind first alone again =
                let here : u ∷ more ≡ same.token ∷ same.ts_rest = behind ∙ same.ts_is in
                let head : u ≡ same.token = cc in
                let stop : ends_argument same.token ≡ true = ap ends_argument (sym head) ∙ ends in
                ap (λ (w : List TokenV). number_first (t ∷ w)) same.us_is ∙ value_at t same.token same.us_rest number stop ∙ ap (λ (w : List TokenV). r (t ∷ w)) (sym same.us_is)
                ∙ ap (λ (y : TokenV). r (y ∷ others)) first ∙ ap (λ (w : List TokenV). r (v ∷ (w ++ others))) (sym alone) ∙ again others same

    passed_takes : ends_argument u ≡ false → r (u ∷ more) ≡ Ok x → Takes number_first a_number_first (t ∷ u ∷ more) x.0 x.1
    passed_takes goes e =
        let one = laws.sound (u ∷ more) x e in
        from one.front one.parts one.spelled one.again one.alone
      where
        from : (front : List TokenV) → u ∷ more ≡ front ++ x.1 → s x.0 front → ((others : List TokenV) → SameNext x.1 others → r (front ++ others) ≡ Ok (x.0, others)) → ReadsAll (r front) x.0 → Takes number_first a_number_first (t ∷ u ∷ more) x.0 x.1
        from [] parts spelled again alone = let o = starts x.0 [] spelled in let none : [] ≡ o.token ∷ o.rest = o.parts in absurd cc
        from (v ∷ vs) parts spelled again alone =
            let first : u ≡ v = cc in
            let on : ends_argument v ≡ false = ap ends_argument (sym first) ∙ goes in
            record {
              front = t ∷ v ∷ vs;
              parts = ap (λ (w : List TokenV). t ∷ w) parts;
              spelled = inr (record { front = t ∷ []; rest = v ∷ vs; parts = refl; first_spells = integer_token t number; rest_spells = spelled });
              again = λ others same. passed_at t v (vs ++ others) number on ∙ again others same;
              alone = elim alone [
                | inl all ↦ inl (passed_at t v vs number on ∙ all)
                | inr needs ↦ inr (passed_at t v vs number on ∙ needs)
              ];
            }

  number_sound : (ts : List TokenV) (x : A × List TokenV) → number_first ts ≡ Ok x → Takes number_first a_number_first ts x.0 x.1
  number_sound [] x e = absurd cc
  number_sound (t ∷ []) x e = let clash = sym (ended t) ∙ e in absurd cc
  number_sound (t ∷ u ∷ more) x e =
      elim (cases_Bool (is_integer t)) [
        | inl number ↦ elim (cases_Bool (ends_argument u)) [
          | inl ends ↦ value_takes t u more number x ends (sym (value_at t u more number ends) ∙ e)
          | inr goes ↦ passed_takes t u more number x goes (sym (passed_at t u more number goes) ∙ e)
        ]
        | inr none ↦ let clash = sym (no_number t (u ∷ more) none) ∙ e in absurd cc
      ]

  -- ---- what is spelled is read

  complete_value : (a : A) (ws rest : List TokenV) → length ws ≤ n → s a ws → Opens is_integer ws → BehindArgument rest → number_first (ws ++ rest) ≡ Ok (a, rest)
  unfolding next_is
  complete_value a ws rest short spelled o f = by_rest rest f
    where
      alone : o.rest ≡ []
      alone = single a o.token o.rest o.is (subst (s a) o.parts spelled)

      whole : ws ≡ o.token ∷ []
      whole = o.parts ∙ ap (λ (w : List TokenV). o.token ∷ w) alone

      by_rest : (rest : List TokenV) → BehindArgument rest → number_first (ws ++ rest) ≡ Ok (a, rest)
      by_rest [] g = absurd (none g)
        where
          none : next_is ends_argument [] ≡ true → ⊥
          none h = let clash : false ≡ true = h in cc
      by_rest (u ∷ more) g =
          let ends : ends_argument u ≡ true = g in
          ap (λ (w : List TokenV). number_first (w ++ u ∷ more)) whole ∙ value_at o.token u more o.is ends ∙ ap (λ (w : List TokenV). r (w ++ u ∷ more)) (sym whole) ∙ laws.complete a ws (u ∷ more) short spelled g

  complete_passed : (a : A) (ws rest : List TokenV) → length ws ≤ n → Both (one_token some_integer tt) (s a) ws → BehindArgument rest → number_first (ws ++ rest) ≡ Ok (a, rest)
  complete_passed a ws rest short b f =
      let t = b.first_spells in
      let o = starts a b.rest b.rest_spells in
      let goes : ends_argument o.token ≡ false = not-true (ends_argument o.token) o.is in
      let whole : ws ≡ t.token ∷ b.rest = b.parts ∙ ap (λ (w : List TokenV). w ++ b.rest) t.parts in
      let size : length ws ≡ suc (length b.rest) = ap length whole in
      ap (λ (w : List TokenV). number_first (w ++ rest)) whole ∙ ap (λ (w : List TokenV). number_first (t.token ∷ (w ++ rest))) o.parts ∙ passed_at t.token o.token (o.rest ++ rest) (token_integer b.front t) goes
      ∙ ap (λ (w : List TokenV). r (w ++ rest)) (sym o.parts) ∙ laws.complete a b.rest rest (omega arith) b.rest_spells f

  number_complete : (a : A) (ws rest : List TokenV) → length ws ≤ n → a_number_first a ws → BehindArgument rest → number_first (ws ++ rest) ≡ Ok (a, rest)
  number_complete a ws rest short (inl p) f = complete_value a ws rest short p.0 p.1 f
  number_complete a ws rest short (inr b) f = complete_passed a ws rest short b f

  -- ---- the first fault

  meant_fault : (m : Result A Cause) (t : TokenV) (rest : List TokenV) (line : ℕ) (cause : Cause) → meant m t rest ≡ Err (At line cause) → (t.line ≡ line) × ((more : List TokenV) → meant m t more ≡ Err (At line cause))
  meant_fault (Ok a) t rest line cause e = absurd cc
  meant_fault (Err why) t rest line cause e = (let h : failed (At t.line (blamed t why)) ≡ failed (At line cause) = e in cc, λ more. e)
    where
      failed : Fault → Outcome A
      failed d = Err d

  module _ (t u : TokenV) (more : List TokenV) (number : is_integer t ≡ true) (line : ℕ) (cause : Cause) where
    value_wrong : ends_argument u ≡ true → r (t ∷ u ∷ more) ≡ Err (At line cause) → WrongAt number_first (t ∷ u ∷ more) line cause
    value_wrong ends e =
        let f = meant_fault (means t) t (u ∷ more) line cause (sym (reads t (u ∷ more) number) ∙ e) in
        record {
          front = t ∷ [];
          token = u;
          rest = more;
          parts = refl;
          on_line = record { before = []; token = t; behind = u ∷ []; parts = refl; is = f.0 };
          still_open = inr (ended t);
          stays = λ others. value_at t u others number ends ∙ reads t (u ∷ others) number ∙ f.1 (u ∷ others);
        }

    passed_wrong : length (u ∷ more) ≤ n → ends_argument u ≡ false → r (u ∷ more) ≡ Err (At line cause) → WrongAt number_first (t ∷ u ∷ more) line cause
    passed_wrong short goes e =
        let w = laws.faults (u ∷ more) line cause short e in
        record {
          front = t ∷ w.front;
          token = w.token;
          rest = w.rest;
          parts = ap (λ (v : List TokenV). t ∷ v) w.parts;
          on_line = line_behind line (t ∷ []) (w.front ++ w.token ∷ []) w.on_line;
          still_open = still w.front w.token w.rest w.parts w.still_open;
          stays = λ others. same w.front w.token w.rest others w.parts ∙ w.stays others;
        }
      where
        still : (us : List TokenV) (v : TokenV) (rest : List TokenV) → u ∷ more ≡ us ++ v ∷ rest → Unfaulted (r us) → Unfaulted (number_first (t ∷ us))
        still [] v rest parts o = inr (ended t)
        still (y ∷ us) v rest parts o =
            let first : u ≡ y = cc in
            let on : ends_argument y ≡ false = ap ends_argument (sym first) ∙ goes in
            elim o [
              | inl all ↦ inl (all.0, passed_at t y us number on ∙ all.1)
              | inr needs ↦ inr (passed_at t y us number on ∙ needs)
            ]

        same : (us : List TokenV) (v : TokenV) (rest others : List TokenV) → u ∷ more ≡ us ++ v ∷ rest → number_first (t ∷ (us ++ v ∷ others)) ≡ r (us ++ v ∷ others)
        same [] v rest others parts = let first : u ≡ v = cc in passed_at t v others number (ap ends_argument (sym first) ∙ goes)
        same (y ∷ us) v rest others parts = let first : u ≡ y = cc in passed_at t y (us ++ v ∷ others) number (ap ends_argument (sym first) ∙ goes)

  number_faults : (ts : List TokenV) (line : ℕ) (cause : Cause) → length ts ≤ n → number_first ts ≡ Err (At line cause) → WrongAt number_first ts line cause
  number_faults [] line cause short e = absurd cc
  number_faults (t ∷ []) line cause short e = let clash = sym (ended t) ∙ e in absurd cc
  number_faults (t ∷ u ∷ more) line cause short e =
      elim (cases_Bool (is_integer t)) [
        | inl number ↦ elim (cases_Bool (ends_argument u)) [
          | inl ends ↦ value_wrong t u more number line cause ends (sym (value_at t u more number ends) ∙ e)
          | inr goes ↦ passed_wrong t u more number line cause (omega arith) goes (sym (passed_at t u more number goes) ∙ e)
        ]
        | inr none ↦ let clash = sym (no_number t (u ∷ more) none) ∙ e in absurd cc
      ]

  pub number_laws : Lawful n BehindArgument number_first a_number_first
  number_laws = record { sound = number_sound; complete = number_complete; faults = number_faults; begins = inr refl }
