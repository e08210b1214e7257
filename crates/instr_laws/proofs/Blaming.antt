-- A reading that blames its first token where a later one does not pass a test keeps the laws.
use Rattle.std.proofs.Common.{◌≡◌, ℕ, suc, ◌+◌, ◌≤◌, length, arith, Bool, true, false, cond, List, [], ◌∷◌, ◌++◌, Ok, Err, refl, sym, ap, subst, ◌∙◌, append_assoc, inl, inr}
use Rattle.std.proofs.lemmas.Bool.{cases_Bool}
use Rattle.std.proofs.lemmas.List.{length-append}
use Rattle.ir_lex.specs.declared.token.Cause.{Cause}
use Rattle.ir_lex.specs.declared.token.Cause.TheVariants as causes
use Rattle.ir_text.specs.declared.fault.Fault.{Fault}
use Rattle.ir_text.specs.declared.fault.Fault.TheVariants.{At, Ended}
use Rattle.ir_text.specs.Tokens.{TokenV, blamed}
use Rattle.ir_text.specs.Reading.{Outcome, Reader, ◌>>=◌, token_by, wrong}
use Rattle.ir_text.specs.Spelled.{Spelling, one_token}
use Rattle.ir_text.specs.Leaves.{tested}
use Rattle.ir_text.specs.Lawful.{Follow, Unfaulted, Takes, OnLine, WrongAt, Lawful}
use Rattle.ir_text.specs.Repeated.{Both}
use Rattle.ir_text.proofs.Choices.{token_laws}
use Rattle.ir_text.proofs.Laws.{bind_ok, bind_err, line_behind}
use Rattle.instr_laws.proofs.Attributes.{through}

module _ {A : Type 0} (n : ℕ) (between follow : Follow) (r : Reader (Unit {0})) (s : Spelling (Unit {0})) (test : TokenV → Bool) (k : Reader A) (q : Spelling A) (cause : Cause) (first : Lawful n between r s) (behind : Lawful n follow k q)
    (fits : (ws rest : List TokenV) → one_token (λ t. tested (test t) causes.Operand) tt ws → between (ws ++ rest)) where
  -- what stands behind, from a token that passes on
  abbrev pub blaming : TokenV → Reader A
  blaming t [] = Err Ended
  blaming t (u ∷ rest) = cond (test u) (k rest) (wrong t cause)

  abbrev pub marked : Reader A
  marked [] = Err Ended
  marked (t ∷ ts) = r (t ∷ ts) >>= λ x. blaming t x.1

  abbrev pub a_marked : Spelling A
  a_marked a = Both (s tt) (Both (one_token (λ t. tested (test t) causes.Operand) tt) (q a))

  -- the same, which blames the token itself
  abbrev next_one : Reader A
  next_one ts = token_by (λ t. tested (test t) causes.Operand) ts >>= λ x. k x.1

  abbrev plain : Reader A
  plain ts = r ts >>= λ x. next_one x.1

  next_fits : (a : A) (ws rest : List TokenV) → Both (one_token (λ t. tested (test t) causes.Operand) tt) (q a) ws → follow rest → between (ws ++ rest)
  next_fits a ws rest b f = subst between (sym (ap (λ (u : List TokenV). u ++ rest) b.parts ∙ append_assoc b.front b.rest rest)) (fits b.front (b.rest ++ rest) b.first_spells)

  plain_laws : Lawful n follow plain a_marked
  plain_laws = through first (through (token_laws n (λ t. tested (test t) causes.Operand)) behind (λ a ws rest c f. tt)) next_fits

  next_ended : next_one [] ≡ Err Ended
  unfolding token_by
  next_ended = refl

  next_passes : (u : TokenV) (rest : List TokenV) → test u ≡ true → next_one (u ∷ rest) ≡ k rest
  unfolding token_by
  next_passes u rest e = rw e refl

  passes : (t u : TokenV) (rest : List TokenV) → test u ≡ true → blaming t (u ∷ rest) ≡ k rest
  passes t u rest e = rw e refl

  blames : (t u : TokenV) (rest : List TokenV) → test u ≡ false → blaming t (u ∷ rest) ≡ wrong t cause
  blames t u rest e = rw e refl

  abbrev failed : Fault → Outcome A
  failed d = Err d

  none_ok : (t u : TokenV) (rest : List TokenV) (y : A × List TokenV) → test u ≡ false → next_one (u ∷ rest) ≡ Ok y → ⊥
  unfolding token_by
  none_ok t u rest y e h = let clash : failed (At u.line (blamed u causes.Operand)) ≡ Ok y = rw e at h in cc

  none_ended : (t u : TokenV) (rest : List TokenV) → test u ≡ false → next_one (u ∷ rest) ≡ Err Ended → ⊥
  unfolding token_by
  none_ended t u rest e h = let clash : failed (At u.line (blamed u causes.Operand)) ≡ Err Ended = rw e at h in cc

  -- both read the same
  next_to : (t : TokenV) (us : List TokenV) (y : A × List TokenV) → blaming t us ≡ Ok y → next_one us ≡ Ok y
  next_to t [] y e = absurd cc
  next_to t (u ∷ us) y e = elim (cases_Bool (test u)) [
    | inl there ↦ next_passes u us there ∙ sym (passes t u us there) ∙ e
    | inr none ↦ let clash = sym (blames t u us none) ∙ e in absurd cc
  ]

  next_from : (t : TokenV) (us : List TokenV) (y : A × List TokenV) → next_one us ≡ Ok y → blaming t us ≡ Ok y
  next_from t [] y e = let clash = sym next_ended ∙ e in absurd cc
  next_from t (u ∷ us) y e = elim (cases_Bool (test u)) [
    | inl there ↦ passes t u us there ∙ sym (next_passes u us there) ∙ e
    | inr none ↦ absurd (none_ok t u us y none e)
  ]

  next_open : (t : TokenV) (us : List TokenV) → next_one us ≡ Err Ended → blaming t us ≡ Err Ended
  next_open t [] e = refl
  next_open t (u ∷ us) e = elim (cases_Bool (test u)) [
    | inl there ↦ passes t u us there ∙ sym (next_passes u us there) ∙ e
    | inr none ↦ absurd (none_ended t u us none e)
  ]

  ok_to : (ts : List TokenV) (y : A × List TokenV) → marked ts ≡ Ok y → plain ts ≡ Ok y
  ok_to [] y e = absurd cc
  ok_to (t ∷ ts) y e = let b = bind_ok (r (t ∷ ts)) (λ x. blaming t x.1) y e in rw b.1 (next_to t b.0.1 y b.2)

  ok_from : (ts : List TokenV) (y : A × List TokenV) → plain ts ≡ Ok y → marked ts ≡ Ok y
  ok_from [] y e = absurd (elim first.begins [
    | inl all ↦ let clash : failed Ended ≡ Ok y = sym (rw all.1 next_ended) ∙ e in cc
    | inr needs ↦ let clash : failed Ended ≡ Ok y = sym (rw needs refl) ∙ e in cc
  ])
  ok_from (t ∷ ts) y e = let b = bind_ok (r (t ∷ ts)) (λ x. next_one x.1) y e in rw b.1 (next_from t b.0.1 y b.2)

  open_from : (ts : List TokenV) → plain ts ≡ Err Ended → marked ts ≡ Err Ended
  open_from [] e = refl
  open_from (t ∷ ts) e = elim (bind_err (r (t ∷ ts)) (λ x. next_one x.1) Ended e) [
    | inl h ↦ rw h refl
    | inr h ↦ rw h.1 (next_open t h.0.1 h.2)
  ]

  marked_sound : (ts : List TokenV) (y : A × List TokenV) → marked ts ≡ Ok y → Takes marked a_marked ts y.0 y.1
  marked_sound ts y e =
      let one = plain_laws.sound ts y (ok_to ts y e) in
      record {
        front = one.front;
        parts = one.parts;
        spelled = one.spelled;
        again = λ others same. ok_from (one.front ++ others) (y.0, others) (one.again others same);
        alone = elim one.alone [
          | inl all ↦ inl (ok_from one.front (y.0, []) all)
          | inr needs ↦ inr (open_from one.front needs)
        ];
      }

  marked_complete : (a : A) (ws rest : List TokenV) → length ws ≤ n → a_marked a ws → follow rest → marked (ws ++ rest) ≡ Ok (a, rest)
  marked_complete a ws rest short spelled f = ok_from (ws ++ rest) (a, rest) (plain_laws.complete a ws rest short spelled f)

  -- ---- the first fault

  -- a front of which all is read, or which needs more
  read_open : (us : List TokenV) → Unfaulted (r us) → marked us ≡ Err Ended
  read_open [] o = refl
  read_open (t ∷ us) (inl all) = rw all.1 refl
  read_open (t ∷ us) (inr needs) = rw needs refl

  -- the first token of a front is that of the whole
  first_of : (t : TokenV) (ts us : List TokenV) (u : TokenV) (rest more : List TokenV) → t ∷ ts ≡ us ++ u ∷ rest → (vs : List TokenV) × (us ++ u ∷ more ≡ t ∷ vs)
  first_of t ts [] u rest more parts = (more, let same : t ≡ u = cc in ap (λ (y : TokenV). y ∷ more) (sym same))
  first_of t ts (v ∷ us) u rest more parts = (us ++ u ∷ more, let same : t ≡ v = cc in ap (λ (y : TokenV). y ∷ (us ++ u ∷ more)) (sym same))

  module _ (t : TokenV) (ts : List TokenV) (line : ℕ) (why : Cause) (short : length (t ∷ ts) ≤ n) where
    early : r (t ∷ ts) ≡ Err (At line why) → WrongAt marked (t ∷ ts) line why
    early h =
        let w = first.faults (t ∷ ts) line why short h in
        record {
          front = w.front;
          token = w.token;
          rest = w.rest;
          parts = w.parts;
          on_line = w.on_line;
          still_open = inr (read_open w.front w.still_open);
          stays = λ more. met w.front w.token more (w.stays more);
        }
      where
        met : (us : List TokenV) (u : TokenV) (more : List TokenV) → r (us ++ u ∷ more) ≡ Err (At line why) → marked (us ++ u ∷ more) ≡ Err (At line why)
        met [] u more is = rw is refl
        met (v ∷ us) u more is = rw is refl

    -- behind what was read, up to a token
    module _ (front : List TokenV) (u : TokenV) (more : List TokenV) (cut : t ∷ ts ≡ front ++ u ∷ more) (again : (others : List TokenV) → r (front ++ u ∷ others) ≡ Ok (tt, u ∷ others)) (alone : Unfaulted (r front)) where
      reads : (others : List TokenV) → marked (front ++ u ∷ others) ≡ blaming t (u ∷ others)
      reads others =
          let f = first_of t ts front u more others cut in
          let here : r (t ∷ f.0) ≡ Ok (tt, u ∷ others) = ap r (sym f.1) ∙ again others in
          ap marked f.1 ∙ rw here refl

      goes_on : (others : List TokenV) → test u ≡ true → marked (front ++ u ∷ others) ≡ k others
      goes_on others there = reads others ∙ passes t u others there

      still : test u ≡ true → (vs : List TokenV) → Unfaulted (k vs) → Unfaulted (marked (front ++ u ∷ vs))
      still there vs (inl all) = inl (all.0, goes_on vs there ∙ all.1)
      still there vs (inr needs) = inr (goes_on vs there ∙ needs)

      behind_it : test u ≡ true → WrongAt k more line why → WrongAt marked (t ∷ ts) line why
      behind_it there w = record {
        front = front ++ u ∷ w.front;
        token = w.token;
        rest = w.rest;
        parts = cut ∙ ap (λ (v : List TokenV). front ++ u ∷ v) w.parts ∙ sym (append_assoc front (u ∷ w.front) (w.token ∷ w.rest));
        on_line = subst (λ (v : List TokenV). OnLine line v) (sym (append_assoc front (u ∷ w.front) (w.token ∷ []))) (line_behind line front (u ∷ (w.front ++ w.token ∷ [])) (line_behind line (u ∷ []) (w.front ++ w.token ∷ []) w.on_line));
        still_open = still there w.front w.still_open;
        stays = λ others. ap marked (append_assoc front (u ∷ w.front) (w.token ∷ others)) ∙ goes_on (w.front ++ w.token ∷ others) there ∙ w.stays others;
      }

      at_it : test u ≡ false → wrong t cause ≡ failed (At line why) → WrongAt marked (t ∷ ts) line why
      at_it none here =
          let at : t.line ≡ line = cc in
          let f = first_of t ts front u more [] cut in
          record {
            front = front;
            token = u;
            rest = more;
            parts = cut;
            on_line = record { before = []; token = t; behind = f.0; parts = f.1; is = at };
            still_open = inr (read_open front alone);
            stays = λ others. reads others ∙ blames t u others none ∙ here;
          }

      late_at : blaming t (u ∷ more) ≡ Err (At line why) → WrongAt marked (t ∷ ts) line why
      late_at e =
          let size : length (t ∷ ts) ≡ length front + suc (length more) = ap length cut ∙ length-append front (u ∷ more) in
          elim (cases_Bool (test u)) [
            | inl there ↦ behind_it there (behind.faults more line why (omega arith) (sym (passes t u more there) ∙ e))
            | inr none ↦ at_it none (sym (blames t u more none) ∙ e)
          ]

    late : (x : Unit {0} × List TokenV) → r (t ∷ ts) ≡ Ok x → (us : List TokenV) → x.1 ≡ us → blaming t us ≡ Err (At line why) → WrongAt marked (t ∷ ts) line why
    late x is [] none e = absurd cc
    late x is (u ∷ more) next e =
        let one = first.sound (t ∷ ts) x is in
        late_at one.front u more (one.parts ∙ ap (λ (v : List TokenV). one.front ++ v) next) (λ others. one.again (u ∷ others) (record { token = u; ts_rest = more; us_rest = others; ts_is = next; us_is = refl }))
        (elim one.alone [
          | inl all ↦ inl (tt, all)
          | inr needs ↦ inr needs
        ]) e

  marked_faults : (ts : List TokenV) (line : ℕ) (why : Cause) → length ts ≤ n → marked ts ≡ Err (At line why) → WrongAt marked ts line why
  marked_faults [] line why short e = absurd cc
  marked_faults (t ∷ ts) line why short e =
      elim (bind_err (r (t ∷ ts)) (λ x. blaming t x.1) (At line why) e) [
        | inl h ↦ early t ts line why short h
        | inr h ↦ late t ts line why short h.0 h.1 h.0.1 refl h.2
      ]

  pub marked_laws : Lawful n follow marked a_marked
  marked_laws = record { sound = marked_sound; complete = marked_complete; faults = marked_faults; begins = inr refl }
