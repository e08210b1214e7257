-- A reading that is only tried where the next token passes a test keeps the laws.
use Rattle.std.proofs.Common.{◌≡◌, ℕ, ◌≤◌, length, arith, Bool, true, false, List, [], ◌∷◌, ◌++◌, Ok, Err, refl, sym, ap, ◌∙◌, inl, inr}
use Rattle.std.proofs.lemmas.Bool.{cases_Bool}
use Rattle.ir_lex.specs.declared.token.Cause.{Cause}
use Rattle.ir_text.specs.declared.fault.Fault.TheVariants.{At, Ended}
use Rattle.ir_text.specs.Tokens.{TokenV}
use Rattle.ir_text.specs.Reading.{Reader, next_is}
use Rattle.ir_text.specs.Spelled.{Spelling}
use Rattle.ir_text.specs.Lawful.{Follow, ReadsAll, Unfaulted, SameNext, Takes, WrongAt, Lawful}
use Rattle.ir_text.specs.Choice.{choose, Opens}
use Rattle.ir_text.proofs.Persisting.{Takers}

module _ {A : Type 0} (n : ℕ) (follow : Follow) (test : TokenV → Bool) (r : Reader A) (s : Spelling A) (laws : Lawful n follow r s) (takes : Takers s) where
  abbrev pub only : Reader A
  only = choose test r (λ ts. Err Ended)

  abbrev pub only_spelled : Spelling A
  only_spelled a ws = s a ws × Opens test ws

  there : (t : TokenV) (ts : List TokenV) → test t ≡ true → only (t ∷ ts) ≡ r (t ∷ ts)
  unfolding next_is
  there t ts e = rw e refl

  nowhere : (t : TokenV) (ts : List TokenV) → test t ≡ false → only (t ∷ ts) ≡ Err Ended
  unfolding next_is
  nowhere t ts e = rw e refl

  at_none : only [] ≡ Err Ended
  unfolding next_is
  at_none = refl

  only_sound : (ts : List TokenV) (x : A × List TokenV) → only ts ≡ Ok x → Takes only only_spelled ts x.0 x.1
  only_sound [] x e = let clash = sym at_none ∙ e in absurd cc
  only_sound (t ∷ ts) x e =
      elim (cases_Bool (test t)) [
        | inl is ↦
            let one = laws.sound (t ∷ ts) x (sym (there t ts is) ∙ e) in
            from is one.front one.parts one.spelled (takes x.0 one.front one.spelled) one.again one.alone
        | inr no_test ↦ let clash = sym (nowhere t ts no_test) ∙ e in absurd cc
      ]
    where
      from : test t ≡ true → (front : List TokenV) → t ∷ ts ≡ front ++ x.1 → s x.0 front → 1 ≤ length front → ((others : List TokenV) → SameNext x.1 others → r (front ++ others) ≡ Ok (x.0, others)) → ReadsAll (r front) x.0
          → Takes only only_spelled (t ∷ ts) x.0 x.1
      from is [] parts spelled some again alone = absurd (omega arith)
      from is (u ∷ us) parts spelled some again alone =
          let first : t ≡ u = cc in
          let here : test u ≡ true = ap test (sym first) ∙ is in
          record {
            front = u ∷ us;
            parts = parts;
            spelled = (spelled, record { token = u; rest = us; parts = refl; is = here });
            again = λ others same. there u (us ++ others) here ∙ again others same;
            alone = elim alone [
              | inl all ↦ inl (there u us here ∙ all)
              | inr more ↦ inr (there u us here ∙ more)
            ];
          }

  only_faults : (ts : List TokenV) (line : ℕ) (cause : Cause) → length ts ≤ n → only ts ≡ Err (At line cause) → WrongAt only ts line cause
  only_faults [] line cause short e = let clash = sym at_none ∙ e in absurd cc
  only_faults (t ∷ ts) line cause short e =
      elim (cases_Bool (test t)) [
        | inl is ↦
            let w = laws.faults (t ∷ ts) line cause short (sym (there t ts is) ∙ e) in
            record {
              front = w.front;
              token = w.token;
              rest = w.rest;
              parts = w.parts;
              on_line = w.on_line;
              still_open = still is w.front w.token w.rest w.parts w.still_open;
              stays = λ more. same is w.front w.token w.rest more w.parts ∙ w.stays more;
            }
        | inr no_test ↦ let clash = sym (nowhere t ts no_test) ∙ e in absurd cc
      ]
    where
      still : test t ≡ true → (us : List TokenV) (u : TokenV) (rest : List TokenV) → t ∷ ts ≡ us ++ u ∷ rest → Unfaulted (r us) → Unfaulted (only us)
      still is [] u rest parts o = inr at_none
      still is (v ∷ us) u rest parts o =
          let first : t ≡ v = cc in
          let here : test v ≡ true = ap test (sym first) ∙ is in
          elim o [
            | inl all ↦ inl (all.0, there v us here ∙ all.1)
            | inr more ↦ inr (there v us here ∙ more)
          ]

      same : test t ≡ true → (us : List TokenV) (u : TokenV) (rest more : List TokenV) → t ∷ ts ≡ us ++ u ∷ rest → only (us ++ u ∷ more) ≡ r (us ++ u ∷ more)
      same is [] u rest more parts = let first : t ≡ u = cc in there u more (ap test (sym first) ∙ is)
      same is (v ∷ us) u rest more parts = let first : t ≡ v = cc in there v (us ++ u ∷ more) (ap test (sym first) ∙ is)

  only_complete : (a : A) (ws rest : List TokenV) → length ws ≤ n → only_spelled a ws → follow rest → only (ws ++ rest) ≡ Ok (a, rest)
  only_complete a ws rest short spelled f =
      let o = spelled.1 in
      ap (λ (u : List TokenV). only (u ++ rest)) o.parts ∙ there o.token (o.rest ++ rest) o.is ∙ ap (λ (u : List TokenV). r (u ++ rest)) (sym o.parts) ∙ laws.complete a ws rest short spelled.0 f

  pub only_laws : Lawful n follow only only_spelled
  only_laws = record { sound = only_sound; complete = only_complete; faults = only_faults; begins = inr at_none }
