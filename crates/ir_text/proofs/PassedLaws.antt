-- What is passed over keeps the laws.
use Rattle.std.proofs.Common.{◌≡◌, ℕ, ◌+◌, ◌≤◌, length, Bool, true, false, cond, List, [], ◌∷◌, ◌++◌, Ok, Err, refl, sym, ap, subst, ◌∙◌, ◌⊎◌, inl, inr}
use lib.Pointwise.{bytes_decides}
use Rattle.ir_lex.specs.declared.token.TokenKind.{TokenKind}
use Rattle.ir_lex.specs.declared.token.TokenKind.TheVariants as kind
use Rattle.ir_lex.specs.declared.token.Cause.TheVariants as causes
use Rattle.ir_text.specs.Tokens.{TokenV, is_mark, punct_is, is_refused, blamed}
use Rattle.ir_text.specs.Reading.{Outcome, Reader, ◌>>=◌, next_is, token_by, wrong, Fails}
use Rattle.ir_text.specs.declared.fault.ReadEnd.{ReadEnd}
use Rattle.ir_text.specs.declared.fault.ReadEnd.TheVariants as ends
use Rattle.ir_text.specs.Spelled.{Spelling, InTurn, one_token, nothing, never, when, unless}
use Rattle.ir_text.specs.Lawful.{Follow, Behind, anything, Lawful, Refuses}
use Rattle.ir_text.specs.Choice.{choose, Opens}
use Rattle.ir_text.specs.Leaves.{mark, mark_at}
use Rattle.ir_text.specs.Repeated.{repeated, each, stays}
use Rattle.ir_text.specs.Passed.{AfterWord, AfterPassed, skipped, skips, is_integer, some_integer, some_string, group_from, a_group, after_word, after_string, passed_by, passed_at, may_pass, may_pass_by, words_at, with_word, with_string, passed_led, passed_unless, some_words}
use Rattle.ir_text.proofs.Laws.{nothing_laws, in_turn_before}
use Rattle.ir_text.proofs.Choices.{in_turn, weaken, led, token_laws}
use Rattle.ir_text.proofs.ChoiceLaws.{choice, optional, token_opens, opens_more}
use Rattle.ir_text.proofs.Groups.{group_laws}
use Rattle.ir_text.proofs.RepeatedLaws.{repeated_laws, repeated_is}

pub refusing_here : {A : Type 0} (t : TokenV) → Refuses {A = A} (λ rest. wrong t causes.Operand) never t
refusing_here t = record { cause = blamed t causes.Operand; refused = λ rest. refl; unspelled = λ x ws s. s }

-- items of which nothing is kept
pub skipped_laws : {A : Type 0} (n : ℕ) (test : TokenV → Bool) (item : Reader A) (s : Spelling A) (between : Follow) → Lawful n between item s → ((a : A) (ws : List TokenV) → s a ws → Opens test ws)
    → ((a : A) (ws rest : List TokenV) → s a ws → between (ws ++ rest)) → Lawful n (Behind test between) (skipped test item) (skips s)
skipped_laws n test item s between laws opens followed =
    in_turn_before n (Behind test between) (Behind test between) (repeated test item) (λ all ts. Ok (tt, ts)) (each s) (λ all. nothing tt)
    (repeated_laws n test (λ _. item) stays (λ _. s) between (λ _. laws) (λ _ a ws t. opens a ws t) (λ _ a ws rest t. followed a ws rest t) tt)
    (λ all. nothing_laws n (Behind test between) tt) (λ all u ws rest t b. rw t.1 b)

pub after_word_laws : (n : ℕ) → Lawful n AfterWord after_word with_word
unfolding AfterWord next_is
after_word_laws n =
    choice n (is_mark 40) anything (Behind is_integer anything) AfterWord (λ ts. mark_at 40 ts >>= λ x. group_from 1 x.1) (choose is_integer (token_by some_integer) (λ ts. Ok (tt, ts)))
    (InTurn (one_token (mark 40)) (λ _. a_group 1)) (λ a ws. nothing tt a ws ⊎ one_token some_integer a ws)
    (in_turn n anything (mark_at 40) (λ _. group_from 1) (one_token (mark 40)) (λ _. a_group 1) (token_laws n (mark 40)) (λ _. group_laws n 1))
    (optional n is_integer anything (token_by some_integer) tt (one_token some_integer) (token_laws n some_integer) (token_opens is_integer (λ _. causes.Operand)))
    (opens_more (is_mark 40) (one_token (mark 40)) (λ _. a_group 1) (token_opens (is_mark 40) (λ _. causes.Operand)))
    not_parenthesis (λ rest b. tt) (λ rest b. b.fits)
  where
    number_mark : (k : TokenKind) (text : List ℕ) → is_integer (record { kind = k; text = text; line = 0 }) ≡ true → punct_is (40 ∷ []) k text ≡ false
    number_mark kind.Integer text e = refl
    number_mark kind.Punct text e = absurd cc
    number_mark kind.GlobalName text e = absurd cc
    number_mark kind.LocalName text e = absurd cc
    number_mark kind.Label text e = absurd cc
    number_mark kind.Word text e = absurd cc
    number_mark kind.Text text e = absurd cc

    not_parenthesis : (a : Unit {0}) (ws rest : List TokenV) → nothing tt a ws ⊎ one_token some_integer a ws → AfterWord rest → next_is (is_mark 40) (ws ++ rest) ≡ false
    not_parenthesis a ws rest (inl s) b = rw s.1 b.none
    not_parenthesis a ws rest (inr s) b =
        let o = token_opens is_integer (λ _. causes.Operand) a ws s in
        ap (λ (u : List TokenV). next_is (is_mark 40) (u ++ rest)) o.parts ∙ number_mark o.token.kind o.token.text o.is

pub after_string_laws : (n : ℕ) → Lawful n (Behind (is_mark 61) anything) after_string with_string
after_string_laws n =
    optional n (is_mark 61) anything (λ ts. mark_at 61 ts >>= λ x. token_by some_string x.1) tt (InTurn (one_token (mark 61)) (λ _. one_token some_string))
    (in_turn n anything (mark_at 61) (λ _. token_by some_string) (one_token (mark 61)) (λ _. one_token some_string) (token_laws n (mark 61)) (λ _. token_laws n some_string))
    (opens_more (is_mark 61) (one_token (mark 61)) (λ _. one_token some_string) (token_opens (is_mark 61) (λ _. causes.Operand)))

module _ (n : ℕ) (stop : TokenV → Bool) where
  sign_each : (b : Bool) (t : TokenV) → Lawful n AfterPassed (λ rest. cond b (token_by some_integer rest) (wrong t causes.Operand)) (when b (one_token some_integer)) ⊎ Refuses (λ rest. cond b (token_by some_integer rest) (wrong t causes.Operand)) (when b (one_token some_integer)) t
  sign_each true t = inl (weaken n anything AfterPassed _ _ (λ rest b. tt) (token_laws n some_integer))
  sign_each false t = inr (refusing_here t)

  word_each : (b : Bool) (t : TokenV) → Lawful n AfterPassed (λ rest. cond b (wrong t causes.Operand) (after_word rest)) (unless b with_word) ⊎ Refuses (λ rest. cond b (wrong t causes.Operand) (after_word rest)) (unless b with_word) t
  unfolding AfterPassed
  word_each true t = inr (refusing_here t)
  word_each false t = inl (weaken n AfterWord AfterPassed after_word with_word (λ rest b. b.fits) (after_word_laws n))

  kind_each : (k : TokenKind) (t : TokenV) → Lawful n AfterPassed (passed_by k t) (passed_led k t) ⊎ Refuses (passed_by k t) (passed_led k t) t
  unfolding AfterPassed
  kind_each kind.Word t = word_each (is_refused t) t
  kind_each kind.Text t = inl (weaken n (Behind (is_mark 61) anything) AfterPassed after_string with_string (λ rest b. record { none = b.none; fits = tt }) (after_string_laws n))
  kind_each kind.Punct t = sign_each (is_mark 35 t) t
  kind_each kind.GlobalName t = sign_each (is_mark 35 t) t
  kind_each kind.LocalName t = sign_each (is_mark 35 t) t
  kind_each kind.Label t = sign_each (is_mark 35 t) t
  kind_each kind.Integer t = sign_each (is_mark 35 t) t

  passed_each : (b : Bool) (t : TokenV) → Lawful n AfterPassed (λ rest. cond b (passed_by t.kind t rest) (wrong t causes.Operand)) (when b (passed_led t.kind t)) ⊎ Refuses (λ rest. cond b (passed_by t.kind t rest) (wrong t causes.Operand)) (when b (passed_led t.kind t)) t
  passed_each true t = kind_each t.kind t
  passed_each false t = inr (refusing_here t)

  pub passed_laws : Lawful n AfterPassed (passed_at stop) (passed_unless stop)
  unfolding passed_at
  passed_laws = led n AfterPassed (passed_at stop) _ _ refl (λ t rest. refl) (λ t. passed_each (may_pass stop t) t)

-- ---- all of them

module _ (stop : TokenV → Bool) where
  when_is : (b : Bool) (s : Spelling (Unit {0})) (a : Unit {0}) (ws : List TokenV) → when b s a ws → b ≡ true
  when_is true s a ws w = refl
  when_is false s a ws w = absurd w

  pub passed_opens : (a : Unit {0}) (ws : List TokenV) → passed_unless stop a ws → Opens (may_pass stop) ws
  passed_opens a ws s = record { token = s.token; rest = s.rest; parts = s.parts; is = when_is (may_pass stop s.token) _ a s.rest s.rest_spells }

  not_other : (b : ℕ) (text : List ℕ) → punct_is (35 ∷ []) kind.Punct text ≡ true → punct_is (b ∷ []) kind.Punct (35 ∷ []) ≡ false → punct_is (b ∷ []) kind.Punct text ≡ false
  not_other b text e other = let is : text ≡ 35 ∷ [] = (bytes_decides text (35 ∷ [])).0 e in rw is other

  kind_mark : (b : ℕ) (k : TokenKind) (t : TokenV) → punct_is (b ∷ []) kind.Punct (35 ∷ []) ≡ false → t.kind ≡ k → may_pass_by k stop t ≡ true → punct_is (b ∷ []) k t.text ≡ false
  kind_mark b kind.Punct t other is e = not_other b t.text (sym (ap (λ (j : TokenKind). punct_is (35 ∷ []) j t.text) is) ∙ e) other
  kind_mark b kind.GlobalName t other is e = refl
  kind_mark b kind.LocalName t other is e = refl
  kind_mark b kind.Label t other is e = refl
  kind_mark b kind.Integer t other is e = refl
  kind_mark b kind.Word t other is e = refl
  kind_mark b kind.Text t other is e = refl

  other_mark : (b : ℕ) (t : TokenV) → punct_is (b ∷ []) kind.Punct (35 ∷ []) ≡ false → may_pass stop t ≡ true → is_mark b t ≡ false
  unfolding may_pass
  other_mark b t other e = kind_mark b t.kind t other refl e

  kind_integer : (k : TokenKind) (t : TokenV) → t.kind ≡ k → may_pass_by k stop t ≡ true → is_integer t ≡ false
  kind_integer kind.Integer t is e =
      let clash : is_mark 35 t ≡ false = ap (λ (j : TokenKind). punct_is (35 ∷ []) j t.text) is in
      let bad : true ≡ false = sym e ∙ clash in absurd cc
  kind_integer kind.Punct t is e = rw is refl
  kind_integer kind.GlobalName t is e = rw is refl
  kind_integer kind.LocalName t is e = rw is refl
  kind_integer kind.Label t is e = rw is refl
  kind_integer kind.Word t is e = rw is refl
  kind_integer kind.Text t is e = rw is refl

  other_integer : (t : TokenV) → may_pass stop t ≡ true → is_integer t ≡ false
  unfolding may_pass
  other_integer t e = kind_integer t.kind t refl e

  passed_followed : (a : Unit {0}) (ws rest : List TokenV) → passed_unless stop a ws → AfterPassed (ws ++ rest)
  unfolding AfterPassed AfterWord next_is
  passed_followed a ws rest s =
      let o = passed_opens a ws s in
      let is : ws ++ rest ≡ o.token ∷ (o.rest ++ rest) = ap (λ (u : List TokenV). u ++ rest) o.parts in
      subst AfterPassed (sym is) (record { none = other_mark 61 o.token refl o.is; fits = record { none = other_mark 40 o.token refl o.is; fits = record { none = other_integer o.token o.is; fits = tt } } })

  pub words_laws : (n : ℕ) → Lawful n (Behind (may_pass stop) AfterPassed) (words_at stop) (some_words stop)
  words_laws n = skipped_laws n (may_pass stop) (passed_at stop) (passed_unless stop) AfterPassed (passed_laws n stop) passed_opens passed_followed

-- ---- a loop's turns

module _ {A : Type 0} (test : TokenV → Bool) (item : Reader A) (less : (ts : List TokenV) (x : A × List TokenV) → item ts ≡ Ok x → 1 + length x.1 ≤ length ts) where
  abbrev unkept : Outcome (List A) → Outcome (Unit {0})
  unkept read = read >>= λ all. Ok (tt, all.1)

  forget : (a : A) (read : Outcome (List A)) → unkept (read >>= λ others. Ok (a ∷ others.0, others.1)) ≡ unkept read
  forget a (Ok x) = refl
  forget a (Err e) = refl

  pub skips_on : (ts rest : List TokenV) (x : A) → next_is test ts ≡ true → item ts ≡ Ok (x, rest) → skipped test item ts ≡ skipped test item rest
  skips_on ts rest x there h = ap unkept (repeated_is test (λ _. item) stays (λ _. less) tt ts) ∙ rw (there, h) (forget x (repeated test item rest))

  pub skips_fails : (e : ReadEnd) (ts : List TokenV) → next_is test ts ≡ true → Fails e (item ts) → Fails e (skipped test item ts)
  skips_fails ends.Memory ts there h = tt
  skips_fails (ends.Bad f) ts there h = ap unkept (repeated_is test (λ _. item) stays (λ _. less) tt ts) ∙ rw (there, h) refl

  pub skips_end : (ts : List TokenV) → next_is test ts ≡ false → skipped test item ts ≡ Ok (tt, ts)
  skips_end ts none = ap unkept (repeated_is test (λ _. item) stays (λ _. less) tt ts) ∙ rw none refl
