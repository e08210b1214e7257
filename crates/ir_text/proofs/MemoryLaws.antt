-- Reading a type of memory keeps the laws.
use Rattle.std.proofs.Common.{◌≡◌, ℕ, ◌≤◌, length, arith, Bool, true, false, cond, List, [], ◌∷◌, ◌++◌, Ok, Err, refl, sym, ap, subst, ◌∙◌, append_assoc, inl, inr}
use Rattle.std.proofs.lemmas.List.{length-append, append-nil}
use Rattle.ir_lex.specs.declared.token.Cause.{Cause}
use Rattle.ir_lex.specs.declared.token.Cause.TheVariants as causes
use Rattle.ir_tree.specs.Trees.{TypeV}
use Rattle.ir_text.specs.declared.fault.Fault.{Fault}
use Rattle.ir_text.specs.declared.fault.Fault.TheVariants.{At, Ended}
use Rattle.ir_text.specs.Tokens.{TokenV, blamed}
use Rattle.ir_text.specs.Reading.{Outcome, ◌>>=◌, wrong}
use Rattle.ir_text.specs.Lawful.{anything, ReadsAll, Unfaulted, Takes, WrongAt, Lawful}
use Rattle.ir_text.specs.Types.{Known, type_at}
use Rattle.ir_text.specs.TypeSpelled.{a_type}
use Rattle.ir_text.specs.MemoryTypes.{has_layout, memory_type_at, a_memory_type}
use Rattle.ir_text.proofs.TypeLaws.{type_opens}
use Rattle.ir_text.proofs.TypeFuel.{type_laws, type_none}
use Rattle.ir_text.proofs.MemoryTypeLaws.{memory_none}

-- the last of some tokens
record Ending (ts : List TokenV) : Type 0 where
  before : List TokenV
  last : TokenV
  is : ts ≡ before ++ last ∷ []

ending : (u : TokenV) (us : List TokenV) → Ending (u ∷ us)
ending u [] = record { before = []; last = u; is = refl }
ending u (v ∷ us) =
    let e = ending v us in
    record { before = u ∷ e.before; last = e.last; is = ap (λ (xs : List TokenV). u ∷ xs) e.is }

-- what stands behind the last of them does not change the first
first_same : (init us more rest : List TokenV) (last t : TokenV) → t ∷ rest ≡ init ++ last ∷ us → (tail : List TokenV) × (init ++ last ∷ more ≡ t ∷ tail)
first_same [] us more rest last t is = (more, let same : last ≡ t = cc in ap (λ (v : TokenV). v ∷ more) same)
first_same (u ∷ init) us more rest last t is = (init ++ last ∷ more, let same : u ≡ t = cc in ap (λ (v : TokenV). v ∷ (init ++ last ∷ more)) same)

no_shorter : (us vs : List TokenV) (t : TokenV) → us ≡ vs ++ t ∷ us → ⊥
no_shorter us vs t is = let len = ap length is in absurd (omega (arith, length-append vs (t ∷ us), len))

module _ (known : Known) where
  abbrev guard : TokenV → TypeV × List TokenV → Outcome TypeV
  guard t x = cond (has_layout known x.0) (let p : Outcome TypeV = Ok x in p) (wrong t causes.Layout)

  at_token : (t : TokenV) (rest : List TokenV) → memory_type_at known (t ∷ rest) ≡ (type_at known (t ∷ rest) >>= guard t)
  unfolding memory_type_at
  at_token t rest = refl

  guard_ok : (t : TokenV) (o : Outcome TypeV) (z : TypeV × List TokenV) → o ≡ Ok z → has_layout known z.0 ≡ true → (o >>= guard t) ≡ Ok z
  guard_ok t o z e has = rw e (rw has refl)

  guard_bad : (t : TokenV) (o : Outcome TypeV) (z : TypeV × List TokenV) → o ≡ Ok z → has_layout known z.0 ≡ false → (o >>= guard t) ≡ wrong t causes.Layout
  guard_bad t o z e lacks = rw e (rw lacks refl)

  guard_err : (t : TokenV) (o : Outcome TypeV) (f : Fault) → o ≡ Err f → (o >>= guard t) ≡ Err f
  guard_err t o f e = rw e refl

  laid_ok : (us : List TokenV) (z : TypeV × List TokenV) → type_at known us ≡ Ok z → has_layout known z.0 ≡ true → memory_type_at known us ≡ Ok z
  laid_ok [] z e has = let none = type_none known in absurd cc
  laid_ok (t ∷ rest) z e has = at_token t rest ∙ guard_ok t (type_at known (t ∷ rest)) z e has

  laid_err : (us : List TokenV) (f : Fault) → type_at known us ≡ Err f → memory_type_at known us ≡ Err f
  laid_err [] f e = memory_none known [] refl ∙ (sym (type_none known) ∙ e)
  laid_err (t ∷ rest) f e = at_token t rest ∙ guard_err t (type_at known (t ∷ rest)) f e

  by_has : (t : TokenV) (y x : TypeV × List TokenV) (b : Bool) → has_layout known y.0 ≡ b → cond b (let p : Outcome TypeV = Ok y in p) (wrong t causes.Layout) ≡ Ok x → ((let p : Outcome TypeV = Ok y in p) ≡ Ok x) × (has_layout known x.0 ≡ true)
  by_has t y x true is e = (e, let same : y ≡ x = cc in subst (λ (z : TypeV × List TokenV). has_layout known z.0 ≡ true) same is)
  by_has t y x false is e = absurd cc

  from_ok : (t : TokenV) (o : Outcome TypeV) (x : TypeV × List TokenV) → (o >>= guard t) ≡ Ok x → (o ≡ Ok x) × (has_layout known x.0 ≡ true)
  from_ok t (Ok y) x e = by_has t y x (has_layout known y.0) refl e
  from_ok t (Err f) x e = absurd cc

  alone_laid : (us : List TokenV) (a : TypeV) → has_layout known a ≡ true → ReadsAll (type_at known us) a → ReadsAll (memory_type_at known us) a
  alone_laid us a has (inl e) = inl (laid_ok us (a, []) e has)
  alone_laid us a has (inr e) = inr (laid_err us Ended e)

  laid_sound : (ts : List TokenV) (x : TypeV × List TokenV) → memory_type_at known ts ≡ Ok x → Takes (memory_type_at known) (a_memory_type known) ts x.0 x.1
  laid_sound [] x e = let none = memory_none known [] refl in absurd cc
  laid_sound (t ∷ rest) x e =
      let p = from_ok t (type_at known (t ∷ rest)) x (sym (at_token t rest) ∙ e) in
      let s = (type_laws known 0).sound (t ∷ rest) x p.0 in
      record {
        front = s.front;
        parts = s.parts;
        spelled = (s.spelled, p.1);
        again = λ others same. laid_ok (s.front ++ others) (x.0, others) (s.again others same) p.1;
        alone = alone_laid s.front x.0 p.1 s.alone;
      }

  -- ---- faults inside the type

  open_ended : (n : ℕ) (front rest : List TokenV) (t : TokenV) (f : Fault) → length front ≤ n → type_at known (front ++ t ∷ rest) ≡ Err f → Unfaulted (type_at known front) → type_at known front ≡ Err Ended
  open_ended n front rest t f le bad (inr e) = e
  open_ended n front rest t f le bad (inl x) =
      let s = (type_laws known n).sound front (x.0, []) x.1 in
      let same : front ≡ s.front = s.parts ∙ append-nil s.front in
      let len : length front ≡ length s.front = ap length same in
      let good : type_at known (s.front ++ t ∷ rest) ≡ Ok (x.0, t ∷ rest) = (type_laws known n).complete x.0 s.front (t ∷ rest) (omega arith) s.spelled tt in
      let there : type_at known (front ++ t ∷ rest) ≡ Ok (x.0, t ∷ rest) = ap (λ (us : List TokenV). type_at known (us ++ t ∷ rest)) same ∙ good in
      absurd cc

  inner : (n : ℕ) (ts : List TokenV) (line : ℕ) (cause : Cause) → length ts ≤ n → WrongAt (type_at known) ts line cause → WrongAt (memory_type_at known) ts line cause
  inner n ts line cause le w =
      let len : length ts ≡ length (w.front ++ w.token ∷ w.rest) = ap length w.parts in
      record {
        front = w.front;
        token = w.token;
        rest = w.rest;
        parts = w.parts;
        on_line = w.on_line;
        still_open = inr (laid_err w.front Ended (open_ended n w.front w.rest w.token (At line cause) (omega (arith, length-append w.front (w.token ∷ w.rest))) (w.stays w.rest) w.still_open));
        stays = λ more. laid_err (w.front ++ w.token ∷ more) (At line cause) (w.stays more);
      }

  -- ---- a type with no layout

  module _ (n : ℕ) (init us : List TokenV) (last : TokenV) (y : TypeV) (few : length (init ++ last ∷ []) ≤ n) (spelled : a_type known y (init ++ last ∷ [])) where
    reads : (more : List TokenV) → type_at known (init ++ last ∷ more) ≡ Ok (y, more)
    reads more = ap (type_at known) (sym (append_assoc init (last ∷ []) more)) ∙ (type_laws known n).complete y (init ++ last ∷ []) more few spelled tt

    few_init : length init ≤ n
    few_init = omega (arith, length-append init (last ∷ []), few)

    short_by : (o : Outcome TypeV) → type_at known init ≡ o → type_at known init ≡ Err Ended
    short_by (Ok x) is =
        let s = (type_laws known n).sound init x is in
        let len : length init ≡ length (s.front ++ x.1) = ap length s.parts in
        let longer : type_at known (s.front ++ (x.1 ++ last ∷ us)) ≡ Ok (x.0, x.1 ++ last ∷ us) = (type_laws known n).complete x.0 s.front (x.1 ++ last ∷ us) (omega (arith, length-append s.front x.1, few_init)) s.spelled tt in
        let same : init ++ last ∷ us ≡ s.front ++ (x.1 ++ last ∷ us) = ap (λ (vs : List TokenV). vs ++ last ∷ us) s.parts ∙ append_assoc s.front x.1 (last ∷ us) in
        let both : (let p : Outcome TypeV = Ok (y, us) in p) ≡ Ok (x.0, x.1 ++ last ∷ us) = sym (reads us) ∙ ap (type_at known) same ∙ longer in
        let pair : (let z : TypeV × List TokenV = (y, us) in z) ≡ (x.0, x.1 ++ last ∷ us) = cc in
        let tails : us ≡ x.1 ++ last ∷ us = ap (λ (z : TypeV × List TokenV). z.1) pair in
        absurd (no_shorter us x.1 last tails)
    short_by (Err Ended) is = is
    short_by (Err (At line cause)) is =
        let w = (type_laws known n).faults init line cause few_init is in
        let same : init ++ last ∷ us ≡ w.front ++ w.token ∷ (w.rest ++ last ∷ us) = ap (λ (vs : List TokenV). vs ++ last ∷ us) w.parts ∙ append_assoc w.front (w.token ∷ w.rest) (last ∷ us) in
        let both : (let p : Outcome TypeV = Ok (y, us) in p) ≡ Err (At line cause) = sym (reads us) ∙ ap (type_at known) same ∙ w.stays (w.rest ++ last ∷ us) in
        absurd cc

    unlaid : (t : TokenV) (rest : List TokenV) → t ∷ rest ≡ init ++ last ∷ us → has_layout known y ≡ false → WrongAt (memory_type_at known) (t ∷ rest) t.line (blamed t causes.Layout)
    unlaid t rest is lacks =
        let here = first_same init us [] rest last t is in
        record {
          front = init;
          token = last;
          rest = us;
          parts = is;
          on_line = record { before = []; token = t; behind = here.0; parts = here.1; is = refl };
          still_open = inr (laid_err init Ended (short_by (type_at known init) refl));
          stays = λ more.
              let h = first_same init us more rest last t is in
              ap (memory_type_at known) h.1 ∙ at_token t h.0 ∙ guard_bad t (type_at known (t ∷ h.0)) (y, more) (ap (type_at known) (sym h.1) ∙ reads more) lacks;
        }

  by_layout : (n : ℕ) (t : TokenV) (rest : List TokenV) (line : ℕ) (cause : Cause) → length (t ∷ rest) ≤ n → (y : TypeV × List TokenV) → type_at known (t ∷ rest) ≡ Ok y → (b : Bool) → has_layout known y.0 ≡ b
      → cond b (let p : Outcome TypeV = Ok y in p) (wrong t causes.Layout) ≡ Err (At line cause) → WrongAt (memory_type_at known) (t ∷ rest) line cause
  by_layout n t rest line cause le y is true has e = absurd cc
  by_layout n t rest line cause le y is false lacks e =
      let s = (type_laws known n).sound (t ∷ rest) y is in
      let o = type_opens known y.0 s.front s.spelled in
      let end = ending o.token o.rest in
      let front_is : s.front ≡ end.before ++ end.last ∷ [] = o.parts ∙ end.is in
      let parts : t ∷ rest ≡ end.before ++ end.last ∷ y.1 = s.parts ∙ ap (λ (vs : List TokenV). vs ++ y.1) front_is ∙ append_assoc end.before (end.last ∷ []) y.1 in
      let len : length (t ∷ rest) ≡ length (end.before ++ end.last ∷ y.1) = ap length parts in
      let few : length (end.before ++ end.last ∷ []) ≤ n = omega (arith, le, len, length-append end.before (end.last ∷ []), length-append end.before (end.last ∷ y.1)) in
      let w = unlaid n end.before y.1 end.last y.0 few (subst (a_type known y.0) front_is s.spelled) t rest parts lacks in
      let same_line : t.line ≡ line = cc in
      let same_cause : blamed t causes.Layout ≡ cause = cc in
      subst (λ (c : Cause). WrongAt (memory_type_at known) (t ∷ rest) line c) same_cause (subst (λ (k : ℕ). WrongAt (memory_type_at known) (t ∷ rest) k (blamed t causes.Layout)) same_line w)

  by_read : (n : ℕ) (t : TokenV) (rest : List TokenV) (line : ℕ) (cause : Cause) → length (t ∷ rest) ≤ n → (o : Outcome TypeV) → type_at known (t ∷ rest) ≡ o → (o >>= guard t) ≡ Err (At line cause) → WrongAt (memory_type_at known) (t ∷ rest) line cause
  by_read n t rest line cause le (Ok y) is e = by_layout n t rest line cause le y is (has_layout known y.0) refl e
  by_read n t rest line cause le (Err f) is e = inner n (t ∷ rest) line cause le ((type_laws known n).faults (t ∷ rest) line cause le (is ∙ e))

  laid_faults : (n : ℕ) (ts : List TokenV) (line : ℕ) (cause : Cause) → length ts ≤ n → memory_type_at known ts ≡ Err (At line cause) → WrongAt (memory_type_at known) ts line cause
  laid_faults n [] line cause le e = let none = memory_none known [] refl in absurd cc
  laid_faults n (t ∷ rest) line cause le e = by_read n t rest line cause le (type_at known (t ∷ rest)) refl (sym (at_token t rest) ∙ e)

  pub memory_laws : (n : ℕ) → Lawful n anything (memory_type_at known) (a_memory_type known)
  memory_laws n = record {
    sound = laid_sound;
    complete = λ a ws rest le s f. laid_ok (ws ++ rest) (a, rest) ((type_laws known n).complete a ws rest le s.0 f) s.1;
    faults = laid_faults n;
    begins = inr (memory_none known [] refl);
  }
