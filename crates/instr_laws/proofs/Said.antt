-- Words of a list and what they say keep the laws, and readings that are the same.
use Rattle.std.proofs.Common.{◌≡◌, ℕ, Bool, true, false, cond, List, [], ◌∷◌, ◌++◌, Ok, Err, refl, sym, ◌∙◌, inl, inr}
use Rattle.ir_lex.specs.declared.token.Cause.TheVariants as causes
use Rattle.ir_text.specs.Tokens.{TokenV}
use Rattle.ir_text.specs.Reading.{Outcome, Reader, ◌>>=◌, token_by}
use Rattle.ir_text.specs.Spelled.{Spelling, one_token}
use Rattle.ir_text.specs.Lawful.{Follow, Behind, ReadsAll, Unfaulted, anything, Lawful}
use Rattle.ir_text.specs.Choice.{Opens}
use Rattle.ir_text.specs.Repeated.{Both, each, stays}
use Rattle.ir_text.proofs.Choices.{respell, token_laws}
use Rattle.ir_text.proofs.RepeatedLaws.{repeated_laws}
use Rattle.ir_instr.specs.Words.{is_among}
use Rattle.ir_instr.specs.Flags.{one_of, words_of}
use Rattle.ir_instr.specs.InstructionSpelled.{Says, nothing_said}
use Rattle.instr_laws.specs.Made.{Made}
use Rattle.instr_laws.proofs.Rows.{last, before, past}
use Rattle.instr_laws.proofs.Opening.{one_opens}

-- ---- readings that are the same

module _ {A : Type 0} (n : ℕ) (follow : Follow) (r q : Reader A) (s : Spelling A) (same : (ts : List TokenV) → r ts ≡ q ts) where
  all_same : (ts : List TokenV) (a : A) → ReadsAll (r ts) a → ReadsAll (q ts) a
  all_same ts a (inl all) = inl (sym (same ts) ∙ all)
  all_same ts a (inr more) = inr (sym (same ts) ∙ more)

  open_same : (ts : List TokenV) → Unfaulted (r ts) → Unfaulted (q ts)
  open_same ts (inl all) = inl (all.0, sym (same ts) ∙ all.1)
  open_same ts (inr more) = inr (sym (same ts) ∙ more)

  pub reread : Lawful n follow r s → Lawful n follow q s
  reread laws = record {
    sound = λ ts x e.
        let t = laws.sound ts x (same ts ∙ e) in
        record { front = t.front; parts = t.parts; spelled = t.spelled; again = λ others next. sym (same (t.front ++ others)) ∙ t.again others next; alone = all_same t.front x.0 t.alone };
    complete = λ a ws rest short spelled f. sym (same (ws ++ rest)) ∙ laws.complete a ws rest short spelled f;
    faults = λ ts line cause short e.
        let w = laws.faults ts line cause short (same ts ∙ e) in
        record { front = w.front; token = w.token; rest = w.rest; parts = w.parts; on_line = w.on_line; still_open = open_same w.front w.still_open; stays = λ more. sym (same (w.front ++ w.token ∷ more)) ∙ w.stays more };
    begins = open_same [] laws.begins;
  }

-- ---- words of a list

one_passes : (words : List (List ℕ)) (t : TokenV) (b : Bool) (text : List ℕ) → is_among words t ≡ b → cond b (Ok t.text) (Err causes.Operand) ≡ Ok text → is_among words t ≡ true
one_passes words t true text is e = is
one_passes words t false text is e = absurd cc

listed_opens : (words : List (List ℕ)) (text : List ℕ) (ws : List TokenV) → one_token (one_of words) text ws → Opens (is_among words) ws
listed_opens words text ws s = one_opens (is_among words) (one_of words) text ws (λ t e. one_passes words t (is_among words t) text refl e) s

pub listed_laws : (n : ℕ) (words : List (List ℕ)) → Lawful n (Behind (is_among words) anything) (words_of words) (each (one_token (one_of words)))
listed_laws n words = repeated_laws n (is_among words) (λ _. token_by (one_of words)) stays (λ _. one_token (one_of words)) anything (λ _. token_laws n (one_of words)) (λ _ a ws s. listed_opens words a ws s) (λ _ a ws rest s. tt) tt

module _ {A : Type 0} (n : ℕ) (words : List (List ℕ)) (meaning : List (List ℕ) → A) where
  abbrev saying : Reader A
  saying ts = words_of words ts >>= λ all. Ok (meaning all.0, all.1)

  pub says_laws : Lawful n (Behind (is_among words) anything) saying (Says words meaning)
  says_laws = respell n (Behind (is_among words) anything) saying (Made meaning (each (one_token (one_of words)))) (Says words meaning)
      (λ a ws s. record { written = s.parts; spelled = s.spelled; is = s.is })
      (λ a ws s. record { parts = s.written; spelled = s.spelled; is = s.is })
      (last meaning (listed_laws n words))

  regroup : {B : Type 0} (q : A → Reader B) (o : Outcome (List (List ℕ))) → (o >>= λ all. Ok (meaning all.0, all.1)) >>= (λ x. q x.0 x.1) ≡ (o >>= λ all. q (meaning all.0) all.1)
  regroup q (Ok x) = refl
  regroup q (Err e) = refl

  -- what the words say, and the parts behind them
  pub said : {Y B : Type 0} (follow : Follow) (q : A → Reader B) (f : A → Y → B) (c : A → Y → List TokenV → Type 0)
      → ((a : A) → Lawful n follow (q a) (Made (f a) (c a))) → ((a : A) (y : Y) (ws rest : List TokenV) → c a y ws → follow rest → Behind (is_among words) anything (ws ++ rest))
      → Lawful n follow (λ ts. words_of words ts >>= λ all. q (meaning all.0) all.1) (Made (λ (p : A × Y). f p.0 p.1) (λ p. Both (Says words meaning p.0) (c p.0 p.1)))
  said follow q f c others fits =
      reread n follow (λ ts. saying ts >>= λ x. q x.0 x.1) (λ ts. words_of words ts >>= λ all. q (meaning all.0) all.1) _ (λ ts. regroup q (words_of words ts)) (before says_laws others fits)

-- words of which nothing is kept
pub unsaid : {Y B : Type 0} (n : ℕ) (words : List (List ℕ)) (follow : Follow) (q : Reader B) (f : Y → B) (c : Y → List TokenV → Type 0)
    → Lawful n follow q (Made f c) → ((y : Y) (ws rest : List TokenV) → c y ws → follow rest → Behind (is_among words) anything (ws ++ rest))
    → Lawful n follow (λ ts. words_of words ts >>= λ all. q all.1) (Made f (λ y. Both (Says words nothing_said tt) (c y)))
unsaid n words follow q f c others fits =
    reread n follow (λ ts. (words_of words ts >>= λ all. Ok (nothing_said all.0, all.1)) >>= λ x. q x.1) (λ ts. words_of words ts >>= λ all. q all.1) _ (λ ts. regroup n words nothing_said (λ _. q) (words_of words ts)) (past (says_laws n words nothing_said) others fits)
