-- Readings that count their steps by the tokens there are.
use Rattle.std.proofs.Common.{◌≡◌, ℕ, ◌+◌, ◌≤◌, length, arith, List, [], ◌∷◌, ◌++◌, Ok, Err, sym, ap, ◌∙◌, append_assoc, inl, inr}
use Rattle.std.proofs.lemmas.List.{length-append, append_cancel_right}
use Rattle.ir_lex.specs.declared.token.Cause.{Cause}
use Rattle.ir_text.specs.declared.fault.Fault.TheVariants.{At}
use Rattle.ir_text.specs.Tokens.{TokenV}
use Rattle.ir_text.specs.Reading.{Outcome, Reader}
use Rattle.ir_text.specs.Spelled.{Spelling}
use Rattle.ir_text.specs.Lawful.{Follow, Unfaulted, Takes, WrongAt, Lawful}

-- a fault stays whatever more tokens there are
pub persists : {A : Type 0} (n : ℕ) (follow : Follow) (r : Reader A) (s : Spelling A) → Lawful n follow r s → (ts more : List TokenV) (line : ℕ) (cause : Cause) → length ts ≤ n → r ts ≡ Err (At line cause) → r (ts ++ more) ≡ Err (At line cause)
persists n follow r s laws ts more line cause short e =
    let w = laws.faults ts line cause short e in
    let is : ts ++ more ≡ w.front ++ w.token ∷ (w.rest ++ more) = ap (λ (u : List TokenV). u ++ more) w.parts ∙ append_assoc w.front (w.token ∷ w.rest) more in
    ap r is ∙ w.stays (w.rest ++ more)

module _ {A : Type 0} (n : ℕ) (follow : Follow) (f : ℕ → Reader A) (s : Spelling A) (same : (k m : ℕ) (ts : List TokenV) → length ts ≤ k → length ts ≤ m → f k ts ≡ f m ts) (laws : (k : ℕ) → n ≤ k → Lawful n follow (f k) s) where
  abbrev read : Reader A
  read ts = f (length ts) ts

  at_most : (k : ℕ) (ts : List TokenV) → length ts ≤ k → read ts ≡ f k ts
  at_most k ts le = same (length ts) k ts (omega arith) le

  all_sound : (ts : List TokenV) (x : A × List TokenV) → read ts ≡ Ok x → Takes read s ts x.0 x.1
  all_sound ts x e =
      let one = (laws (n + length ts) (omega arith)).sound ts x (sym (at_most (n + length ts) ts (omega arith)) ∙ e) in
      record {
        front = one.front;
        parts = one.parts;
        spelled = one.spelled;
        again = λ others next.
            let k : ℕ = n + length ts + length (one.front ++ others) in
            let two = (laws k (omega arith)).sound ts x (sym (at_most k ts (omega arith)) ∙ e) in
            let front : two.front ≡ one.front = append_cancel_right two.front one.front x.1 (sym two.parts ∙ one.parts) in
            at_most k (one.front ++ others) (omega arith) ∙ ap (λ (u : List TokenV). f k (u ++ others)) (sym front) ∙ two.again others next;
        alone =
            let le : length one.front ≤ length ts = omega (arith, ap length one.parts ∙ length-append one.front x.1) in
            elim one.alone [
              | inl all ↦ inl (at_most (n + length ts) one.front (omega arith) ∙ all)
              | inr more ↦ inr (at_most (n + length ts) one.front (omega arith) ∙ more)
            ];
      }

  all_complete : (a : A) (ws rest : List TokenV) → length ws ≤ n → s a ws → follow rest → read (ws ++ rest) ≡ Ok (a, rest)
  all_complete a ws rest short spelled follows =
      let k : ℕ = n + length (ws ++ rest) in
      at_most k (ws ++ rest) (omega arith) ∙ (laws k (omega arith)).complete a ws rest short spelled follows

  all_faults : (ts : List TokenV) (line : ℕ) (cause : Cause) → length ts ≤ n → read ts ≡ Err (At line cause) → WrongAt read ts line cause
  all_faults ts line cause short e =
      let w = (laws n (omega arith)).faults ts line cause short (sym (at_most n ts short) ∙ e) in
      let size : length ts ≡ length w.front + length (w.token ∷ w.rest) = ap length w.parts ∙ length-append w.front (w.token ∷ w.rest) in
      let cut : length (w.front ++ w.token ∷ []) ≡ length w.front + 1 = length-append w.front (w.token ∷ []) in
      record {
        front = w.front;
        token = w.token;
        rest = w.rest;
        parts = w.parts;
        on_line = w.on_line;
        still_open = elim w.still_open [
          | inl all ↦ inl (all.0, at_most n w.front (omega arith) ∙ all.1)
          | inr more ↦ inr (at_most n w.front (omega arith) ∙ more)
        ];
        stays = λ more.
            let k : ℕ = n + length (w.front ++ w.token ∷ more) in
            let here : f k (w.front ++ w.token ∷ []) ≡ Err (At line cause) = same k n (w.front ++ w.token ∷ []) (omega arith) (omega arith) ∙ w.stays [] in
            at_most k (w.front ++ w.token ∷ more) (omega arith) ∙ ap (f k) (sym (append_assoc w.front (w.token ∷ []) more))
            ∙ persists n follow (f k) s (laws k (omega arith)) (w.front ++ w.token ∷ []) more line cause (omega arith) here;
      }

  all_begins : Unfaulted (read [])
  all_begins = elim (laws n (omega arith)).begins [
    | inl all ↦ inl (all.0, at_most n [] (omega arith) ∙ all.1)
    | inr more ↦ inr (at_most n [] (omega arith) ∙ more)
  ]

  -- with as many steps as there are tokens
  pub counted : Lawful n follow read s
  counted = record { sound = all_sound; complete = all_complete; faults = all_faults; begins = all_begins }

-- ---- what is read is taken

abbrev pub Below : {A : Type 0} → ℕ → Outcome A → Type 0
Below n (Ok x) = length x.1 ≤ n
Below n (Err e) = Unit {0}

-- at least one token spells a value
abbrev pub Takers : {A : Type 0} → Spelling A → Type 0
Takers {A} s = (a : A) (ws : List TokenV) → s a ws → 1 ≤ length ws

pub shortens : {A : Type 0} (n : ℕ) (follow : Follow) (r : Reader A) (s : Spelling A) → Lawful n follow r s → Takers s → (ts : List TokenV) (x : A × List TokenV) → r ts ≡ Ok x → 1 + length x.1 ≤ length ts
shortens n follow r s laws some ts x e =
    let one = laws.sound ts x e in
    let size : length ts ≡ length one.front + length x.1 = ap length one.parts ∙ length-append one.front x.1 in
    let least = some x.0 one.front one.spelled in
    omega arith
