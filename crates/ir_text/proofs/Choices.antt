-- One token, and choices by the next token, keep the laws.
use Rattle.std.proofs.Common.{◌≡◌, ℕ, suc, ◌≤◌, length, arith, List, [], ◌∷◌, ◌++◌, Result, Ok, Err, refl, sym, ap, ◌∙◌, ◌⊎◌, inl, inr}
use Rattle.ir_lex.specs.declared.token.Cause.{Cause}
use Rattle.ir_text.specs.declared.fault.Fault.{Fault}
use Rattle.ir_text.specs.declared.fault.Fault.TheVariants.{At, Ended}
use Rattle.ir_text.specs.Tokens.{TokenV, blamed}
use Rattle.ir_text.specs.Reading.{Outcome, Reader, ◌>>=◌, Meaning, meant, token_by}
use Rattle.ir_text.specs.Spelled.{Spelling, InTurn, Led, one_token, nothing, never}
use Rattle.ir_text.specs.Lawful.{Follow, anything, Takes, WrongAt, Lawful, Refuses}
use Rattle.ir_text.proofs.Laws.{line_behind, in_turn_before, nothing_laws}

abbrev failed : {A : Type 0} → Fault → Outcome A
failed d = Err d

abbrev done : {A : Type 0} → A × List TokenV → Outcome A
done x = Ok x

pub in_turn : {A B : Type 0} (n : ℕ) (follow : Follow) (r : Reader A) (f : A → Reader B) (s : Spelling A) (q : A → Spelling B) → Lawful n anything r s → ((a : A) → Lawful n follow (f a) (q a)) → Lawful n follow (λ ts. r ts >>= λ x. f x.0 x.1) (InTurn s q)
in_turn n follow r f s q first others = in_turn_before n anything follow r f s q first others (λ a b ws rest t h. tt)

-- laws that speak of more speak of less
pub lower : {A : Type 0} (n m : ℕ) (follow : Follow) (r : Reader A) (s : Spelling A) → m ≤ n → Lawful n follow r s → Lawful m follow r s
lower n m follow r s le laws = record {
  sound = laws.sound;
  complete = λ a ws rest short spelled f. laws.complete a ws rest (omega arith) spelled f;
  faults = λ ts line cause short e. laws.faults ts line cause (omega arith) e;
  begins = laws.begins;
}

-- less may follow
pub weaken : {A : Type 0} (n : ℕ) (more less : Follow) (r : Reader A) (s : Spelling A) → ((rest : List TokenV) → less rest → more rest) → Lawful n more r s → Lawful n less r s
weaken n more less r s fewer laws = record {
  sound = laws.sound;
  complete = λ a ws rest short spelled f. laws.complete a ws rest short spelled (fewer rest f);
  faults = laws.faults;
  begins = laws.begins;
}

-- the same tokens by another spelling
pub respell : {A : Type 0} (n : ℕ) (follow : Follow) (r : Reader A) (s q : Spelling A) → ((a : A) (ws : List TokenV) → s a ws → q a ws) → ((a : A) (ws : List TokenV) → q a ws → s a ws) → Lawful n follow r s → Lawful n follow r q
respell n follow r s q to from laws = record {
  sound = λ ts x e. let one = laws.sound ts x e in record { front = one.front; parts = one.parts; spelled = to x.0 one.front one.spelled; again = one.again; alone = one.alone };
  complete = λ a ws rest short spelled f. laws.complete a ws rest short (from a ws spelled) f;
  faults = laws.faults;
  begins = laws.begins;
}

pub refusing : {A : Type 0} (t : TokenV) (cause : Cause) → Refuses {A = A} (λ rest. Err (At t.line cause)) never t
refusing t cause = record { cause = cause; refused = λ rest. refl; unspelled = λ x ws s. s }

-- a reading that always needs more, which nothing spells
pub dead : {A : Type 0} (n : ℕ) (follow : Follow) → Lawful {A = A} n follow (λ ts. Err Ended) never
dead n follow = record { sound = λ ts x e. absurd cc; complete = λ a ws rest short s f. absurd s; faults = λ ts line cause short e. absurd cc; begins = inr refl }

-- ---- by the first token

module _ {A : Type 0} (n : ℕ) (follow : Follow) (r : Reader A) (f : TokenV → Reader A) (q : TokenV → Spelling A) (ended : r [] ≡ Err Ended) (steps : (t : TokenV) (rest : List TokenV) → r (t ∷ rest) ≡ f t rest)
    (each : (t : TokenV) → Lawful n follow (f t) (q t) ⊎ Refuses (f t) (q t) t) where
  led_sound : (ts : List TokenV) (x : A × List TokenV) → r ts ≡ Ok x → Takes r (Led q) ts x.0 x.1
  led_sound [] x e = absurd cc
  led_sound (t ∷ rest) x e =
      elim (each t) [
        | inl laws ↦ let one = laws.sound rest x (sym (steps t rest) ∙ e) in record {
          front = t ∷ one.front;
          parts = ap (λ (u : List TokenV). t ∷ u) one.parts;
          spelled = record { token = t; rest = one.front; parts = refl; rest_spells = one.spelled };
          again = λ others same. steps t (one.front ++ others) ∙ one.again others same;
          alone = elim one.alone [
            | inl all ↦ inl (steps t one.front ∙ all)
            | inr more ↦ inr (steps t one.front ∙ more)
          ];
        }
        | inr refusal ↦ let clash = sym (refusal.refused rest) ∙ sym (steps t rest) ∙ e in absurd cc
      ]

  led_complete : (a : A) (ws rest : List TokenV) → length ws ≤ suc n → Led q a ws → follow rest → r (ws ++ rest) ≡ Ok (a, rest)
  led_complete a ws rest short led follows =
      let size : length ws ≡ suc (length led.rest) = ap length led.parts in
      elim (each led.token) [
        | inl laws ↦ ap (λ (u : List TokenV). r (u ++ rest)) led.parts ∙ steps led.token (led.rest ++ rest) ∙ laws.complete a led.rest rest (omega arith) led.rest_spells follows
        | inr refusal ↦ absurd (refusal.unspelled a led.rest led.rest_spells)
      ]

  led_faults : (ts : List TokenV) (line : ℕ) (cause : Cause) → length ts ≤ suc n → r ts ≡ Err (At line cause) → WrongAt r ts line cause
  led_faults [] line cause short e = absurd cc
  led_faults (t ∷ rest) line cause short e =
      elim (each t) [
        | inl laws ↦ let w = laws.faults rest line cause (omega arith) (sym (steps t rest) ∙ e) in record {
          front = t ∷ w.front;
          token = w.token;
          rest = w.rest;
          parts = ap (λ (u : List TokenV). t ∷ u) w.parts;
          on_line = line_behind line (t ∷ []) (w.front ++ w.token ∷ []) w.on_line;
          still_open = elim w.still_open [
            | inl all ↦ inl (all.0, steps t w.front ∙ all.1)
            | inr more ↦ inr (steps t w.front ∙ more)
          ];
          stays = λ more. steps t (w.front ++ w.token ∷ more) ∙ w.stays more;
        }
        | inr refusal ↦
            let is : failed {A = A} (At t.line refusal.cause) ≡ failed (At line cause) = sym (refusal.refused rest) ∙ sym (steps t rest) ∙ e in
            let l : t.line ≡ line = cc in
            record {
              front = [];
              token = t;
              rest = rest;
              parts = refl;
              on_line = record { before = []; token = t; behind = []; parts = refl; is = l };
              still_open = inr ended;
              stays = λ more. steps t more ∙ refusal.refused more ∙ is;
            }
      ]

  -- what stands behind the first token is shorter by it
  pub led_more : Lawful (suc n) follow r (Led q)
  led_more = record { sound = led_sound; complete = led_complete; faults = led_faults; begins = inr ended }

  pub led : Lawful n follow r (Led q)
  led = lower (suc n) n follow r (Led q) (omega arith) led_more

-- ---- one token

module _ {A : Type 0} (n : ℕ) (means : Meaning A) where
  pub one_each : (t : TokenV) (m : Result A Cause) → means t ≡ m → Lawful n anything (meant m t) (λ a ws. (m ≡ Ok a) × (ws ≡ [])) ⊎ Refuses (meant m t) (λ a ws. (m ≡ Ok a) × (ws ≡ [])) t
  one_each t (Ok a) is = inl (respell n anything (λ ts. Ok (a, ts)) (nothing a) _ (λ b ws s. (ap (λ (x : A). Ok x) s.0, s.1)) (λ b ws s. (let e = s.0 in cc, s.1)) (nothing_laws n anything a))
  one_each t (Err cause) is = inr (record { cause = blamed t cause; refused = λ rest. refl; unspelled = λ a ws s. let e = s.0 in cc })

  pub token_laws : Lawful n anything (token_by means) (one_token means)
  unfolding token_by
  token_laws =
      respell n anything (token_by means) (Led (λ t a ws. (means t ≡ Ok a) × (ws ≡ []))) (one_token means)
      (λ a ws s. record { token = s.token; parts = s.parts ∙ ap (λ (u : List TokenV). s.token ∷ u) s.rest_spells.1; is = s.rest_spells.0 })
      (λ a ws s. record { token = s.token; rest = []; parts = s.parts; rest_spells = (s.is, refl) })
      (led n anything (token_by means) (λ t. meant (means t) t) _ refl (λ t rest. refl) (λ t. one_each t (means t) refl))
