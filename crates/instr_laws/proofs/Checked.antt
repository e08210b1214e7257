-- A reading whose value is tested at last, and which blames its first token, keeps the laws.
use Rattle.std.proofs.Common.{◌≡◌, ℕ, ◌+◌, ◌≤◌, length, arith, List, [], ◌∷◌, ◌++◌, Option, Some, None, Ok, Err, refl, sym, ap, subst, ◌∙◌, append_assoc, inl, inr}
use Rattle.std.proofs.lemmas.List.{length-append, append-nil}
use Rattle.ir_lex.specs.declared.token.Cause.{Cause}
use Rattle.ir_text.specs.declared.fault.Fault.{Fault}
use Rattle.ir_text.specs.declared.fault.Fault.TheVariants.{At, Ended}
use Rattle.ir_text.specs.Tokens.{TokenV}
use Rattle.ir_text.specs.Reading.{Outcome, Reader, ◌>>=◌, wrong}
use Rattle.ir_text.specs.Spelled.{Spelling}
use Rattle.ir_text.specs.Lawful.{anything, Unfaulted, Takes, WrongAt, Lawful}
use Rattle.ir_text.proofs.Laws.{bind_ok, bind_err}
use Rattle.ir_text.proofs.Persisting.{persists, Takers}

-- the value, unless there is a cause against it
abbrev pub verdict : {A : Type 0} → Option Cause → TokenV → A × List TokenV → Outcome A
verdict None t x = Ok x
verdict (Some cause) t x = wrong t cause

-- the last of some tokens
record Ending (ts : List TokenV) : Type 0 where
  before : List TokenV
  token : TokenV
  parts : ts ≡ before ++ token ∷ []

ending : (t : TokenV) (ts : List TokenV) → Ending (t ∷ ts)
ending t [] = record { before = []; token = t; parts = refl }
ending t (u ∷ ts) = let e = ending u ts in record { before = t ∷ e.before; token = e.token; parts = ap (λ (us : List TokenV). t ∷ us) e.parts }

abbrev done : {A : Type 0} → A × List TokenV → Outcome A
done x = Ok x

rests : {A : Type 0} (y z : A × List TokenV) → done y ≡ done z → y.1 ≡ z.1
rests {A} y z e = let p : y ≡ z = cc in ap (λ (w : A × List TokenV). w.1) p

module _ {A : Type 0} (n : ℕ) (r : Reader A) (s : Spelling A) (why : A → Option Cause) (q : Reader A) (laws : Lawful n anything r s) (takes : Takers s)
    (ended : q [] ≡ Err Ended) (steps : (t : TokenV) (rest : List TokenV) → q (t ∷ rest) ≡ (r (t ∷ rest) >>= λ x. verdict (why x.0) t x)) where
  abbrev sound_one : Spelling A
  sound_one a ws = s a ws × (why a ≡ None)

  verdict_ok : (w : Option Cause) (t : TokenV) (x y : A × List TokenV) → verdict w t x ≡ Ok y → (w ≡ None) × (x ≡ y)
  verdict_ok None t x y e = (refl, cc)
  verdict_ok (Some cause) t x y e = absurd cc

  -- where the value is right
  passes : (ts : List TokenV) (x : A × List TokenV) → 1 ≤ length ts → r ts ≡ Ok x → why x.0 ≡ None → q ts ≡ Ok x
  passes [] x le e fine = absurd (omega arith)
  passes (t ∷ ts) x le e fine = steps t ts ∙ rw (e, fine) refl

  open_ended : (ts : List TokenV) → r ts ≡ Err Ended → q ts ≡ Err Ended
  open_ended [] e = ended
  open_ended (t ∷ ts) e = steps t ts ∙ rw e refl

  fails : (t : TokenV) (ts : List TokenV) (f : Fault) → r (t ∷ ts) ≡ Err f → q (t ∷ ts) ≡ Err f
  fails t ts f e = steps t ts ∙ rw e refl

  checked_sound : (ts : List TokenV) (x : A × List TokenV) → q ts ≡ Ok x → Takes q sound_one ts x.0 x.1
  checked_sound [] x e = let clash = sym ended ∙ e in absurd cc
  checked_sound (t ∷ ts) x e =
      let b = bind_ok (r (t ∷ ts)) (λ y. verdict (why y.0) t y) x (sym (steps t ts) ∙ e) in
      let v = verdict_ok (why b.0.0) t b.0 x b.2 in
      let is : r (t ∷ ts) ≡ Ok x = b.1 ∙ ap (λ (y : A × List TokenV). Ok y) v.1 in
      let fine : why x.0 ≡ None = sym (ap (λ (y : A × List TokenV). why y.0) v.1) ∙ v.0 in
      let one = laws.sound (t ∷ ts) x is in
      let some : 1 ≤ length one.front = takes x.0 one.front one.spelled in
      record {
        front = one.front;
        parts = one.parts;
        spelled = (one.spelled, fine);
        again = λ others same. passes (one.front ++ others) (x.0, others) (let size = length-append one.front others in omega arith) (one.again others same) fine;
        alone = elim one.alone [
          | inl all ↦ inl (passes one.front (x.0, []) some all fine)
          | inr more ↦ inr (open_ended one.front more)
        ];
      }

  -- less than what spells a value needs more
  short_of : (us vs : List TokenV) (t : TokenV) (a : A) → length (us ++ t ∷ []) ≤ n → s a (us ++ t ∷ []) → (o : Outcome A) → r us ≡ o → o ≡ Err Ended
  short_of us vs t a short spelled (Err Ended) is = refl
  short_of us vs t a short spelled (Err (At line cause)) is =
      let size = length-append us (t ∷ []) in
      let bad : r (us ++ t ∷ []) ≡ Err (At line cause) = persists n anything r s laws us (t ∷ []) line cause (omega arith) is in
      let good : r (us ++ t ∷ []) ≡ Ok (a, []) = ap r (sym (append-nil (us ++ t ∷ []))) ∙ laws.complete a (us ++ t ∷ []) [] short spelled tt in
      let clash = sym good ∙ bad in absurd cc
  short_of us vs t a short spelled (Ok x) is =
      let one = laws.sound us x is in
      let size = length-append us (t ∷ []) in
      let cut : length us ≡ length one.front + length x.1 = ap length one.parts ∙ length-append one.front x.1 in
      let more : us ++ t ∷ [] ≡ one.front ++ (x.1 ++ t ∷ []) = ap (λ (u : List TokenV). u ++ t ∷ []) one.parts ∙ append_assoc one.front x.1 (t ∷ []) in
      let other : r (us ++ t ∷ []) ≡ Ok (x.0, x.1 ++ t ∷ []) = ap r more ∙ laws.complete x.0 one.front (x.1 ++ t ∷ []) (omega arith) one.spelled tt in
      let good : r (us ++ t ∷ []) ≡ Ok (a, []) = ap r (sym (append-nil (us ++ t ∷ []))) ∙ laws.complete a (us ++ t ∷ []) [] short spelled tt in
      let same : done (a, []) ≡ done (x.0, x.1 ++ t ∷ []) = sym good ∙ other in
      let none : [] ≡ x.1 ++ t ∷ [] = rests (a, []) (x.0, x.1 ++ t ∷ []) same in
      let sizes : 0 ≡ length x.1 + 1 = ap length none ∙ length-append x.1 (t ∷ []) in
      absurd (omega arith)

  checked_faults : (ts : List TokenV) (line : ℕ) (cause : Cause) → length ts ≤ n → q ts ≡ Err (At line cause) → WrongAt q ts line cause
  checked_faults [] line cause short e = let clash = sym ended ∙ e in absurd cc
  checked_faults (t ∷ ts) line cause short e =
      elim (bind_err (r (t ∷ ts)) (λ x. verdict (why x.0) t x) (At line cause) (sym (steps t ts) ∙ e)) [
        | inl h ↦ early h
        | inr h ↦ late h.0 h.1 (why h.0.0) refl h.2
      ]
    where
      -- the fault of the reading itself
      early : r (t ∷ ts) ≡ Err (At line cause) → WrongAt q (t ∷ ts) line cause
      early h =
          let w = laws.faults (t ∷ ts) line cause short h in
          record {
            front = w.front;
            token = w.token;
            rest = w.rest;
            parts = w.parts;
            on_line = w.on_line;
            still_open = inr (open_ended w.front (unread w.front w.token (w.stays []) (let size = ap length w.parts ∙ length-append w.front (w.token ∷ w.rest) in omega arith) w.still_open));
            stays = λ more. failed w.front w.token more (w.stays more);
          }
        where
          failed : (us : List TokenV) (u : TokenV) (more : List TokenV) → r (us ++ u ∷ more) ≡ Err (At line cause) → q (us ++ u ∷ more) ≡ Err (At line cause)
          failed [] u more is = fails u more (At line cause) is
          failed (v ∷ us) u more is = fails v (us ++ u ∷ more) (At line cause) is

          unread : (us : List TokenV) (u : TokenV) → r (us ++ u ∷ []) ≡ Err (At line cause) → length us ≤ n → Unfaulted (r us) → r us ≡ Err Ended
          unread us u bad le (inr more) = more
          unread us u bad le (inl all) =
              let one = laws.sound us (all.0, []) all.1 in
              let whole : us ≡ one.front = one.parts ∙ append-nil one.front in
              let good : r (us ++ u ∷ []) ≡ Ok (all.0, u ∷ []) = ap (λ (v : List TokenV). r (v ++ u ∷ [])) whole ∙ laws.complete all.0 one.front (u ∷ []) (let size = ap length whole in omega arith) one.spelled tt in
              let clash = sym bad ∙ good in absurd cc

      -- the fault of its value
      late : (x : A × List TokenV) → r (t ∷ ts) ≡ Ok x → (w : Option Cause) → why x.0 ≡ w → verdict (why x.0) t x ≡ Err (At line cause) → WrongAt q (t ∷ ts) line cause
      late x is None fine h = let clash : verdict None t x ≡ Err (At line cause) = rw fine at h in absurd cc
      late x is (Some because) bad h =
          let one = laws.sound (t ∷ ts) x is in
          met one.front refl one.parts (takes x.0 one.front one.spelled) (let size = ap length one.parts ∙ length-append one.front x.1 in omega arith) one.spelled (rw bad at h)
        where
          met : (front : List TokenV) → front ≡ front → t ∷ ts ≡ front ++ x.1 → 1 ≤ length front → length front ≤ n → s x.0 front → verdict (Some because) t x ≡ Err (At line cause) → WrongAt q (t ∷ ts) line cause
          met [] same parts some le spelled h = absurd (omega arith)
          met (u ∷ us) same parts some le spelled h =
              let first : t ≡ u = cc in
              let end = ending u us in
              let cut : t ∷ ts ≡ end.before ++ end.token ∷ x.1 = parts ∙ ap (λ (v : List TokenV). v ++ x.1) end.parts ∙ append_assoc end.before (end.token ∷ []) x.1 in
              let here : t.line ≡ line = cc in
              record {
                front = end.before;
                token = end.token;
                rest = x.1;
                parts = cut;
                on_line = record { before = []; token = t; behind = us; parts = sym end.parts ∙ ap (λ (v : TokenV). v ∷ us) (sym first); is = here };
                still_open = inr (open_ended end.before (let long : length (end.before ++ end.token ∷ []) ≤ n = rw (sym end.parts) le in short_of end.before [] end.token x.0 long (subst (λ (v : List TokenV). s x.0 v) end.parts spelled) (r end.before) refl));
                stays = λ more.
                    ap q (sym (append_assoc end.before (end.token ∷ []) more) ∙ ap (λ (v : List TokenV). v ++ more) (sym end.parts) ∙ ap (λ (v : TokenV). v ∷ (us ++ more)) (sym first)) ∙ steps t (us ++ more)
                    ∙ rw (ap (λ (v : TokenV). r (v ∷ (us ++ more))) first ∙ laws.complete x.0 (u ∷ us) more le spelled tt, bad) h;
              }

  pub checked : Lawful n anything q sound_one
  checked = record {
    sound = checked_sound;
    complete = λ a ws rest short spelled f.
        passes (ws ++ rest) (a, rest) (let size = length-append ws rest in let some = takes a ws spelled.0 in omega arith) (laws.complete a ws rest short spelled.0 f) spelled.1;
    faults = checked_faults;
    begins = inr ended;
  }
