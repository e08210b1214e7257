-- The laws of an operand with attributes before it.
use Rattle.std.proofs.Common.{◌≡◌, ℕ, zero, suc, ◌+◌, ◌≤◌, length, arith, Bool, true, false, cond, List, [], ◌∷◌, ◌++◌, Ok, Err, refl, sym, ap, subst, ◌∙◌, ◌⊎◌, inl, inr}
use Rattle.std.specs.Prelude.{not, ◌||◌}
use Rattle.std.proofs.lemmas.Bool.{cases_Bool, or_left, or_right, or_cases, or_from}
use Rattle.std.proofs.lemmas.List.{append-nil}
use Rattle.ir_lex.specs.declared.token.TokenKind.{TokenKind}
use Rattle.ir_lex.specs.declared.token.TokenKind.TheVariants as kind
use Rattle.ir_lex.specs.declared.token.Cause.TheVariants as causes
use Rattle.ir_text.specs.declared.fault.Fault.TheVariants.{Ended}
use Rattle.ir_tree.specs.Trees.{TypeV}
use Rattle.ir_text.specs.Tokens.{TokenV, is_mark, is_refused, punct_is, blamed}
use Rattle.ir_text.specs.Reading.{Outcome, Reader, ◌>>=◌, meant, token_by, next_is, wrong}
use Rattle.ir_text.specs.Choice.{choose, Opens}
use Rattle.ir_text.specs.Lawful.{Follow, anything, Lawful, Refuses}
use Rattle.ir_text.specs.Leaves.{mark, mark_at}
use Rattle.ir_text.specs.NestedConstants.{constant_at, constant_to}
use Rattle.ir_text.specs.Operands.{operand_at, an_operand}
use Rattle.ir_text.specs.Passed.{is_integer, kind_is_integer, some_integer, group_from, a_group, after_sign, after_string, may_pass, with_word, with_string, passed_led, passed_unless, some_words}
use Rattle.ir_text.specs.Repeated.{Both, repeated_to, repeated_under, each, stays}
use Rattle.ir_text.specs.Spelled.{Spelling, InTurn, Led, one_token, when, unless}
use Rattle.ir_text.specs.Types.{Known}
use Rattle.ir_text.specs.TypeSpelled.{◌▸◌}
use Rattle.ir_text.proofs.Agreeing.{keeps}
use Rattle.ir_text.proofs.Choices.{in_turn, respell, led_more, lower, token_laws}
use Rattle.ir_text.proofs.ChoiceLaws.{choice}
use Rattle.ir_text.proofs.Groups.{group_laws}
use Rattle.ir_text.proofs.OperandLaws.{operand_laws}
use Rattle.ir_text.proofs.PassedLaws.{after_string_laws, passed_opens}
use Rattle.ir_text.proofs.Persisting.{counted, Takers}
use Rattle.ir_text.proofs.RepeatedLaws.{enough}
use Rattle.ir_instr.specs.Calls.{number_behind, number_of_word, after_attribute, attribute_by, begins_value, attribute_at, attributes_at}
use Rattle.instr_laws.specs.Behind.{ends_argument, BehindArgument}
use Rattle.instr_laws.specs.Forms.{Value}
use Rattle.instr_laws.proofs.Rows.{whole, itself, past}
use Rattle.instr_laws.proofs.Opening.{unopened, opens_as, one_opens, both_opens, the_mark}
use Rattle.instr_laws.proofs.Said.{reread}
use Rattle.instr_laws.proofs.Chains.{together, apart}
use Rattle.instr_laws.proofs.Restricted.{only, only_laws}
use Rattle.instr_laws.proofs.Values.{passed_mark, passed_integer, begins_operand, operand_mark, operand_stays, operand_begins, numbered, number_read, number_alone}
use Rattle.instr_laws.proofs.Numbers.{token_integer, by_next, number_first, a_number_first, number_laws}

-- ---- one attribute before others

module _ (stop : TokenV → Bool) where
  pub words_parts : (ws : List TokenV) → some_words stop tt ws → (units : List (Unit {0})) × each (passed_unless stop) units ws
  words_parts ws s =
      let flat : ws ≡ s.front = s.parts ∙ ap (λ (u : List TokenV). s.front ++ u) s.rest_spells.1 ∙ append-nil s.front in
      (s.value, subst (λ (u : List TokenV). each (passed_unless stop) s.value u) (sym flat) s.first_spells)

  pub words_of : (units : List (Unit {0})) (ws : List TokenV) → each (passed_unless stop) units ws → some_words stop tt ws
  words_of units ws s = record { value = units; front = ws; rest = []; parts = sym (append-nil ws); first_spells = s; rest_spells = (refl, refl) }

  pub words_none : some_words stop tt []
  words_none = words_of [] [] refl

  unit_passed : (u : Unit {0}) (ws : List TokenV) → passed_unless stop u ws → passed_unless stop tt ws
  unit_passed u ws s = s

  pub words_more : (ws : List TokenV) → (passed_unless stop tt ▸ some_words stop tt) ws → some_words stop tt ws
  words_more ws s =
      let more = words_parts s.rest s.rest_spells in
      words_of (tt ∷ more.0) ws (record { front = s.front; rest = s.rest; parts = s.parts; first_spells = s.first_spells; rest_spells = more.1 })

  words_by : (units : List (Unit {0})) (ws : List TokenV) → each (passed_unless stop) units ws → (ws ≡ []) ⊎ (passed_unless stop tt ▸ some_words stop tt) ws
  words_by [] ws s = inl s
  words_by (u ∷ units) ws s = inr (record { front = s.front; rest = s.rest; parts = s.parts; first_spells = unit_passed u s.front s.first_spells; rest_spells = words_of units s.rest s.rest_spells })

  pub words_cases : (ws : List TokenV) → some_words stop tt ws → (ws ≡ []) ⊎ (passed_unless stop tt ▸ some_words stop tt) ws
  words_cases ws s = let p = words_parts ws s in words_by p.0 ws p.1

-- what says nothing, and a value behind it
pub through : {A : Type 0} {n : ℕ} {between follow : Follow} {r : Reader (Unit {0})} {s : Spelling (Unit {0})} {q : Reader A} {c : Spelling A}
    → Lawful n between r s → Lawful n follow q c → ((a : A) (ws rest : List TokenV) → c a ws → follow rest → between (ws ++ rest))
    → Lawful n follow (λ ts. r ts >>= λ x. q x.1) (λ a. Both (s tt) (c a))
through first others fits = itself (past first (whole others) fits)

-- ---- an attribute takes a token

abbrev done : Unit {0} × List TokenV → Outcome (Unit {0})
done y = Ok y

second : (y z : Unit {0} × List TokenV) → done y ≡ done z → y.1 ≡ z.1
second y z g = let p : y ≡ z = cc in ap (λ (w : Unit {0} × List TokenV). w.1) p

behind_keeps : (t : TokenV) (rest : List TokenV) (x : Unit {0} × List TokenV) → number_behind t rest ≡ Ok x → length x.1 ≤ suc (length rest)
behind_keeps t [] x e = absurd cc
behind_keeps t (u ∷ rest) x e = by_end (ends_argument u) e
  where
    by_end : (b : Bool) → cond b (done (tt, t ∷ u ∷ rest)) (done (tt, u ∷ rest)) ≡ done x → length x.1 ≤ suc (suc (length rest))
    by_end true h = let same : t ∷ u ∷ rest ≡ x.1 = second (tt, t ∷ u ∷ rest) x h in let size = ap length same in omega arith
    by_end false h = let same : u ∷ rest ≡ x.1 = second (tt, u ∷ rest) x h in let size = ap length same in omega arith

number_keeps : (ts : List TokenV) (x : Unit {0} × List TokenV) → number_of_word ts ≡ Ok x → length x.1 ≤ length ts
unfolding number_of_word
number_keeps [] x e = let same : [] ≡ x.1 = second (tt, []) x e in let size = ap length same in omega arith
number_keeps (t ∷ rest) x e = by_integer (is_integer t) e
  where
    by_integer : (b : Bool) → cond b (number_behind t rest) (done (tt, t ∷ rest)) ≡ done x → length x.1 ≤ suc (length rest)
    by_integer true h = behind_keeps t rest x h
    by_integer false h = let same : t ∷ rest ≡ x.1 = second (tt, t ∷ rest) x h in let size = ap length same in omega arith

abbrev group_at : Reader (Unit {0})
group_at ts = mark_at 40 ts >>= λ x. group_from 1 x.1

pub group_at_laws : (n : ℕ) → Lawful n anything group_at (InTurn (one_token (mark 40)) (λ _. a_group 1))
group_at_laws n = in_turn n anything (mark_at 40) (λ _. group_from 1) (one_token (mark 40)) (λ _. a_group 1) (token_laws n (mark 40)) (λ _. group_laws n 1)

after_keeps : (ts : List TokenV) (x : Unit {0} × List TokenV) → after_attribute ts ≡ Ok x → length x.1 ≤ length ts
after_keeps ts x e = by_mark (next_is (is_mark 40) ts) e
  where
    by_mark : (b : Bool) → cond b (group_at ts) (number_of_word ts) ≡ done x → length x.1 ≤ length ts
    by_mark true h = keeps 0 anything group_at _ (group_at_laws 0) ts x h
    by_mark false h = number_keeps ts x h

wrong_keeps : (t : TokenV) (rest : List TokenV) (x : Unit {0} × List TokenV) → wrong t causes.Operand ≡ done x → length x.1 ≤ length rest
wrong_keeps t rest x e = absurd cc

sign_keeps : (b : Bool) (t : TokenV) (rest : List TokenV) (x : Unit {0} × List TokenV) → cond b (after_sign rest) (wrong t causes.Operand) ≡ done x → length x.1 ≤ length rest
sign_keeps true t rest x e = keeps 0 anything after_sign _ (token_laws 0 some_integer) rest x e
sign_keeps false t rest x e = wrong_keeps t rest x e

word_keeps : (b : Bool) (t : TokenV) (rest : List TokenV) (x : Unit {0} × List TokenV) → cond b (wrong t causes.Operand) (after_attribute rest) ≡ done x → length x.1 ≤ length rest
word_keeps true t rest x e = wrong_keeps t rest x e
word_keeps false t rest x e = after_keeps rest x e

by_keeps : (k : TokenKind) (t : TokenV) (rest : List TokenV) (x : Unit {0} × List TokenV) → attribute_by k t rest ≡ done x → length x.1 ≤ length rest
by_keeps kind.Word t rest x e = word_keeps (is_refused t) t rest x e
by_keeps kind.Text t rest x e = keeps 0 _ after_string _ (after_string_laws 0) rest x e
by_keeps kind.Punct t rest x e = sign_keeps (is_mark 35 t) t rest x e
by_keeps kind.GlobalName t rest x e = sign_keeps (is_mark 35 t) t rest x e
by_keeps kind.LocalName t rest x e = sign_keeps (is_mark 35 t) t rest x e
by_keeps kind.Label t rest x e = sign_keeps (is_mark 35 t) t rest x e
by_keeps kind.Integer t rest x e = sign_keeps (is_mark 35 t) t rest x e

attribute_less : (ts : List TokenV) (x : Unit {0} × List TokenV) → attribute_at ts ≡ Ok x → 1 + length x.1 ≤ length ts
unfolding attribute_at
attribute_less [] x e = absurd cc
attribute_less (t ∷ rest) x e = by_pass (may_pass begins_value t) e
  where
    by_pass : (b : Bool) → cond b (attribute_by t.kind t rest) (wrong t causes.Operand) ≡ done x → 1 + length x.1 ≤ suc (length rest)
    by_pass true h = let k = by_keeps t.kind t rest x h in omega arith
    by_pass false h = let k = wrong_keeps t rest x h in omega arith

-- ---- so many attributes at most, and an operand

module _ (known : Known) (of : TypeV) where
  -- what begins an attribute or an operand
  begins : TokenV → Bool
  begins t = may_pass begins_value t || begins_operand t

  up_to : ℕ → Reader Value
  up_to k ts = repeated_to (may_pass begins_value) (λ _. attribute_at) stays k tt ts >>= λ all. operand_at known of all.1

  abbrev a_value : Spelling Value
  a_value value = some_words begins_value tt ▸ an_operand known of value

  none_left : (value : Value) (ws : List TokenV) → an_operand known of value ws → a_value value ws
  none_left value ws s = record { front = []; rest = ws; parts = refl; first_spells = words_none begins_value; rest_spells = s }

  one_more : (value : Value) (ws : List TokenV) → (passed_unless begins_value tt ▸ a_value value) ws → a_value value ws
  one_more value ws s =
      let b = together (passed_unless begins_value tt) (some_words begins_value tt) (an_operand known of value) ws s in
      record { front = b.front; rest = b.rest; parts = b.parts; first_spells = words_more begins_value b.front b.first_spells; rest_spells = b.rest_spells }

  value_cases : (value : Value) (ws : List TokenV) → a_value value ws → an_operand known of value ws ⊎ (passed_unless begins_value tt ▸ a_value value) ws
  value_cases value ws s =
      elim (words_cases begins_value s.front s.first_spells) [
        | inl none ↦
            let same : ws ≡ s.rest = s.parts ∙ ap (λ (u : List TokenV). u ++ s.rest) none in
            inl (subst (an_operand known of value) (sym same) s.rest_spells)
        | inr more ↦ inr (apart (passed_unless begins_value tt) (some_words begins_value tt) (an_operand known of value) ws (record { front = s.front; rest = s.rest; parts = s.parts; first_spells = more; rest_spells = s.rest_spells }))
      ]

  passed_begins : (t : TokenV) → may_pass begins_value t ≡ true → begins t ≡ true
  unfolding begins
  passed_begins t e = or_left (may_pass begins_value t) (begins_operand t) e

  operand_begins_too : (t : TokenV) → begins_operand t ≡ true → begins t ≡ true
  unfolding begins
  operand_begins_too t e = or_right (may_pass begins_value t) (begins_operand t) e

  value_begins : (value : Value) (ws : List TokenV) → a_value value ws → Opens begins ws
  value_begins value ws s =
      elim (value_cases value ws s) [
        | inl o ↦ opens_as begins_operand begins ws operand_begins_too (operand_begins known of value ws o)
        | inr m ↦ both_opens begins (passed_unless begins_value tt) (a_value value) ws (λ us p. opens_as (may_pass begins_value) begins us passed_begins (passed_opens begins_value tt us p)) m
      ]

  value_takes : Takers a_value
  value_takes value ws s = let o = value_begins value ws s in omega (arith, ap length o.parts)

  -- it begins with no mark but # and brackets
  no_mark : (b : ℕ) (t : TokenV) → punct_is (b ∷ []) kind.Punct (35 ∷ []) ≡ false → punct_is (b ∷ []) kind.Punct (91 ∷ []) ≡ false → punct_is (b ∷ []) kind.Punct (123 ∷ []) ≡ false → punct_is (b ∷ []) kind.Punct (60 ∷ []) ≡ false → begins t ≡ true → is_mark b t ≡ false
  unfolding begins
  no_mark b t sign square brace angle e =
      elim (or_cases (may_pass begins_value t) (begins_operand t) e) [
        | inl p ↦ passed_mark b begins_value t sign p
        | inr o ↦ operand_mark b t square brace angle o
      ]

  value_apart : (b : ℕ) (value : Value) (ws rest : List TokenV) → punct_is (b ∷ []) kind.Punct (35 ∷ []) ≡ false → punct_is (b ∷ []) kind.Punct (91 ∷ []) ≡ false → punct_is (b ∷ []) kind.Punct (123 ∷ []) ≡ false → punct_is (b ∷ []) kind.Punct (60 ∷ []) ≡ false
      → a_value value ws → next_is (is_mark b) (ws ++ rest) ≡ false
  value_apart b value ws rest sign square brace angle s =
      unopened (is_mark b) ws rest (opens_as begins (λ t. not (is_mark b t)) ws (λ t e. let is : is_mark b t ≡ false = no_mark b t sign square brace angle e in rw is refl) (value_begins value ws s))

  no_end : (t : TokenV) → begins t ≡ true → ends_argument t ≡ false
  no_end t e = or_from (is_mark 44 t) (is_mark 41 t) (no_mark 44 t refl refl refl refl e) (no_mark 41 t refl refl refl refl e)

  value_no_end : (value : Value) (ws : List TokenV) → a_value value ws → Opens (λ t. not (ends_argument t)) ws
  value_no_end value ws s = opens_as begins (λ t. not (ends_argument t)) ws (λ t e. let is : ends_argument t ≡ false = no_end t e in rw is refl) (value_begins value ws s)

  -- a number is the whole value
  value_single : (value : Value) (t : TokenV) (ws : List TokenV) → is_integer t ≡ true → a_value value (t ∷ ws) → ws ≡ []
  value_single value t ws number s =
      elim (value_cases value (t ∷ ws) s) [
        | inl o ↦ number_alone known of value t ws number o
        | inr m ↦
            let p = passed_opens begins_value tt m.front m.first_spells in
            let whole : t ∷ ws ≡ p.token ∷ (p.rest ++ m.rest) = m.parts ∙ ap (λ (u : List TokenV). u ++ m.rest) p.parts in
            let first : t ≡ p.token = cc in
            let clash : true ≡ false = sym number ∙ ap is_integer first ∙ passed_integer begins_value p.token p.is in absurd cc
      ]

  -- ---- one turn

  up_to_none : (ts : List TokenV) → up_to 0 ts ≡ operand_at known of ts
  unfolding up_to repeated_to
  up_to_none ts = refl

  regroup : (k : ℕ) (o : Outcome (Unit {0})) → ((o >>= λ first. repeated_to (may_pass begins_value) (λ _. attribute_at) stays k tt first.1 >>= λ others. Ok (first.0 ∷ others.0, others.1)) >>= λ all. operand_at known of all.1) ≡ (o >>= λ x. up_to k x.1)
  unfolding up_to
  regroup k (Ok x) = forget (repeated_to (may_pass begins_value) (λ _. attribute_at) stays k tt x.1)
    where
      forget : (o : Outcome (List (Unit {0}))) → ((o >>= λ others. Ok (x.0 ∷ others.0, others.1)) >>= λ all. operand_at known of all.1) ≡ (o >>= λ all. operand_at known of all.1)
      forget (Ok y) = refl
      forget (Err e) = refl
  regroup k (Err e) = refl

  abbrev turn : ℕ → Reader Value
  turn k ts = attribute_at ts >>= λ x. up_to k x.1

  up_to_more : (k : ℕ) (ts : List TokenV) → up_to (suc k) ts ≡ choose (may_pass begins_value) (turn k) (operand_at known of) ts
  unfolding up_to repeated_to
  up_to_more k ts = by_pass (next_is (may_pass begins_value) ts)
    where
      by_pass : (b : Bool) → (cond b (attribute_at ts >>= λ first. repeated_to (may_pass begins_value) (λ _. attribute_at) stays k tt first.1 >>= λ others. Ok (first.0 ∷ others.0, others.1)) (Ok ([], ts)) >>= λ all. operand_at known of all.1)
          ≡ cond b (turn k ts) (operand_at known of ts)
      by_pass true = regroup k (attribute_at ts)
      by_pass false = refl

  same : (k m : ℕ) (ts : List TokenV) → length ts ≤ k → length ts ≤ m → up_to k ts ≡ up_to m ts
  unfolding up_to
  same k m ts le lt = ap (λ (o : Outcome (List (Unit {0}))). o >>= λ all. operand_at known of all.1) (enough (may_pass begins_value) (λ _. attribute_at) stays (λ _ us x e. attribute_less us x e) k m tt ts le lt)

  operand_none : operand_at known of [] ≡ Err Ended
  unfolding next_is constant_at constant_to token_by
  operand_none = refl

  up_to_ended : (k : ℕ) → up_to k [] ≡ Err Ended
  unfolding next_is
  up_to_ended zero = up_to_none [] ∙ operand_none
  up_to_ended (suc k) = up_to_more k [] ∙ operand_none

  up_to_number : (k : ℕ) (t : TokenV) (rest : List TokenV) → is_integer t ≡ true → up_to k (t ∷ rest) ≡ meant (numbered of t) t rest
  unfolding next_is
  up_to_number zero t rest number = up_to_none (t ∷ rest) ∙ number_read known of t rest number
  up_to_number (suc k) t rest number =
      let stays_here : may_pass begins_value t ≡ false = not_passed (may_pass begins_value t) refl in
      up_to_more k (t ∷ rest) ∙ rw stays_here (number_read known of t rest number)
    where
      not_passed : (b : Bool) → may_pass begins_value t ≡ b → may_pass begins_value t ≡ false
      not_passed false e = e
      not_passed true e = let clash : true ≡ false = sym number ∙ passed_integer begins_value t e in absurd cc

  -- ---- behind an attribute

  module _ (n k : ℕ) (laws : Lawful n BehindArgument (up_to k) a_value) where
    abbrev numbers : Reader Value
    numbers = number_first n (up_to k) a_value (numbered of) laws (up_to_number k) value_single value_no_end

    abbrev a_numbered : Spelling Value
    a_numbered = a_number_first n (up_to k) a_value (numbered of) laws (up_to_number k) value_single value_no_end

    abbrev not_integer : TokenV → Bool
    not_integer t = not (is_integer t)

    abbrev others : Reader Value
    others = only n BehindArgument not_integer (up_to k) a_value laws value_takes

    abbrev behind_number : Reader Value
    behind_number ts = number_of_word ts >>= λ x. up_to k x.1

    by_number : (ts : List TokenV) → choose is_integer numbers others ts ≡ behind_number ts
    unfolding number_of_word next_is
    by_number [] = sym (up_to_ended k)
    by_number (t ∷ rest) = by_integer (is_integer t) rest
      where
        by_end : (b : Bool) (u : TokenV) (more : List TokenV) → cond b (up_to k (t ∷ u ∷ more)) (up_to k (u ∷ more)) ≡ (cond b (done (tt, t ∷ u ∷ more)) (done (tt, u ∷ more)) >>= λ x. up_to k x.1)
        by_end true u more = refl
        by_end false u more = refl

        by_integer : (b : Bool) (rest : List TokenV)
            → cond b (cond b (by_next n (up_to k) a_value (numbered of) laws (up_to_number k) value_single value_no_end t rest) (Err Ended)) (cond (not b) (up_to k (t ∷ rest)) (Err Ended)) ≡ (cond b (number_behind t rest) (done (tt, t ∷ rest)) >>= λ x. up_to k x.1)
        by_integer false rest = refl
        by_integer true [] = refl
        by_integer true (u ∷ more) = by_end (ends_argument u) u more

    abbrev a_behind_number : Spelling Value
    a_behind_number value ws = a_value value ws ⊎ (one_token some_integer tt ▸ a_value value) ws

    numbered_opens : (value : Value) (ws : List TokenV) → a_numbered value ws → Opens is_integer ws
    numbered_opens value ws (inl s) = s.1
    numbered_opens value ws (inr s) =
        let t = s.first_spells in
        record { token = t.token; rest = s.rest; parts = s.parts ∙ ap (λ (u : List TokenV). u ++ s.rest) t.parts; is = token_integer s.front t }

    abbrev a_value_only : Spelling Value
    a_value_only value ws = a_value value ws × Opens not_integer ws

    behind_number_laws : Lawful n BehindArgument behind_number a_behind_number
    behind_number_laws =
        reread n BehindArgument (λ ts. choose is_integer numbers others ts) behind_number a_behind_number by_number
        (respell n BehindArgument (λ ts. choose is_integer numbers others ts) (λ value ws. a_value_only value ws ⊎ a_numbered value ws) a_behind_number to from
        (choice n is_integer BehindArgument BehindArgument BehindArgument numbers others a_numbered a_value_only (number_laws n (up_to k) a_value (numbered of) laws (up_to_number k) value_single value_no_end)
        (only_laws n BehindArgument not_integer (up_to k) a_value laws value_takes) numbered_opens (λ value ws rest s h. unopened is_integer ws rest s.1) (λ rest h. h) (λ rest h. h)))
      where
        to : (value : Value) (ws : List TokenV) → a_value_only value ws ⊎ a_numbered value ws → a_behind_number value ws
        to value ws (inl s) = inl s.0
        to value ws (inr (inl s)) = inl s.0
        to value ws (inr (inr s)) = inr s

        from : (value : Value) (ws : List TokenV) → a_behind_number value ws → a_value_only value ws ⊎ a_numbered value ws
        from value ws (inl s) =
            let o = value_begins value ws s in
            elim (cases_Bool (is_integer o.token)) [
              | inl e ↦ inr (inl (s, record { token = o.token; rest = o.rest; parts = o.parts; is = e }))
              | inr e ↦ inl (s, record { token = o.token; rest = o.rest; parts = o.parts; is = rw e refl })
            ]
        from value ws (inr s) = inr (inr s)

    -- ---- behind a word

    abbrev behind_word : Reader Value
    behind_word ts = after_attribute ts >>= λ x. up_to k x.1

    abbrev behind_group : Reader Value
    behind_group ts = group_at ts >>= λ x. up_to k x.1

    abbrev a_group_first : Spelling Value
    a_group_first value = InTurn (one_token (mark 40)) (λ _. a_group 1) tt ▸ a_value value

    by_group : (ts : List TokenV) → choose (is_mark 40) behind_group behind_number ts ≡ behind_word ts
    by_group ts = by_mark (next_is (is_mark 40) ts)
      where
        by_mark : (b : Bool) → cond b (behind_group ts) (behind_number ts) ≡ (cond b (group_at ts) (number_of_word ts) >>= λ x. up_to k x.1)
        by_mark true = refl
        by_mark false = refl

    group_opens : (value : Value) (ws : List TokenV) → a_group_first value ws → Opens (is_mark 40) ws
    group_opens value ws s =
        let g = s.first_spells in
        let m = one_opens (is_mark 40) (mark 40) g.value g.front (λ t e. the_mark 40 t g.value e) g.first_spells in
        record { token = m.token; rest = (m.rest ++ g.rest) ++ s.rest; parts = s.parts ∙ ap (λ (u : List TokenV). u ++ s.rest) (g.parts ∙ ap (λ (u : List TokenV). u ++ g.rest) m.parts); is = m.is }

    integer_no_mark : (b : ℕ) (j : TokenKind) (text : List ℕ) → kind_is_integer j ≡ true → punct_is (b ∷ []) j text ≡ false
    integer_no_mark b kind.Integer text e = refl
    integer_no_mark b kind.Punct text e = absurd cc
    integer_no_mark b kind.GlobalName text e = refl
    integer_no_mark b kind.LocalName text e = refl
    integer_no_mark b kind.Label text e = refl
    integer_no_mark b kind.Word text e = refl
    integer_no_mark b kind.Text text e = refl

    no_group : (value : Value) (ws rest : List TokenV) → a_behind_number value ws → BehindArgument rest → next_is (is_mark 40) (ws ++ rest) ≡ false
    no_group value ws rest (inl s) h = value_apart 40 value ws rest refl refl refl refl s
    no_group value ws rest (inr s) h =
        unopened (is_mark 40) ws rest (let t = s.first_spells in
        let none : is_mark 40 t.token ≡ false = integer_no_mark 40 t.token.kind t.token.text (token_integer s.front t) in
        record { token = t.token; rest = s.rest; parts = s.parts ∙ ap (λ (u : List TokenV). u ++ s.rest) t.parts; is = rw none refl })

    abbrev a_behind_word : Spelling Value
    a_behind_word value = with_word tt ▸ a_value value

    behind_word_laws : Lawful n BehindArgument behind_word a_behind_word
    behind_word_laws =
        reread n BehindArgument (λ ts. choose (is_mark 40) behind_group behind_number ts) behind_word a_behind_word by_group
        (respell n BehindArgument (λ ts. choose (is_mark 40) behind_group behind_number ts) (λ value ws. a_behind_number value ws ⊎ a_group_first value ws) a_behind_word to from
        (choice n (is_mark 40) BehindArgument BehindArgument BehindArgument behind_group behind_number a_group_first a_behind_number (through (group_at_laws n) laws (λ value ws rest s h. tt)) behind_number_laws group_opens no_group (λ rest h. h) (λ rest h. h)))
      where
        to : (value : Value) (ws : List TokenV) → a_behind_number value ws ⊎ a_group_first value ws → a_behind_word value ws
        to value ws (inl (inl s)) = record { front = []; rest = ws; parts = refl; first_spells = inl (inl (refl, refl)); rest_spells = s }
        to value ws (inl (inr s)) = record { front = s.front; rest = s.rest; parts = s.parts; first_spells = inl (inr s.first_spells); rest_spells = s.rest_spells }
        to value ws (inr s) = record { front = s.front; rest = s.rest; parts = s.parts; first_spells = inr s.first_spells; rest_spells = s.rest_spells }

        split : (value : Value) (ws front rest : List TokenV) → ws ≡ front ++ rest → with_word tt front → a_value value rest → a_behind_number value ws ⊎ a_group_first value ws
        split value ws front rest parts (inl (inl none)) s =
            let all : ws ≡ rest = parts ∙ ap (λ (u : List TokenV). u ++ rest) none.1 in
            inl (inl (subst (a_value value) (sym all) s))
        split value ws front rest parts (inl (inr number)) s = inl (inr (record { front = front; rest = rest; parts = parts; first_spells = number; rest_spells = s }))
        split value ws front rest parts (inr group) s = inr (record { front = front; rest = rest; parts = parts; first_spells = group; rest_spells = s })

        from : (value : Value) (ws : List TokenV) → a_behind_word value ws → a_behind_number value ws ⊎ a_group_first value ws
        from value ws s = split value ws s.front s.rest s.parts s.first_spells s.rest_spells

    -- ---- an attribute first

    abbrev led_by : TokenKind → TokenV → Spelling Value
    led_by kind.Word t = unless (is_refused t) a_behind_word
    led_by kind.Text t = λ value. with_string tt ▸ a_value value
    led_by _ t = when (is_mark 35 t) (λ value. one_token some_integer tt ▸ a_value value)

    abbrev led_all : TokenV → Spelling Value
    led_all t = when (may_pass begins_value t) (led_by t.kind t)

    abbrev led_read : TokenV → Reader Value
    led_read t rest = cond (may_pass begins_value t) (attribute_by t.kind t rest) (wrong t causes.Operand) >>= λ x. up_to k x.1

    refused_all : (t : TokenV) → Refuses (λ rest. wrong {A = Unit {0}} t causes.Operand >>= λ x. up_to k x.1) (λ value ws. ⊥) t
    refused_all t = record { cause = blamed t causes.Operand; refused = λ rest. refl; unspelled = λ value ws s. s }

    sign_each : (b : Bool) (t : TokenV) → Lawful n BehindArgument (λ rest. cond b (after_sign rest) (wrong t causes.Operand) >>= λ x. up_to k x.1) (when b (λ value. one_token some_integer tt ▸ a_value value))
        ⊎ Refuses (λ rest. cond b (after_sign rest) (wrong t causes.Operand) >>= λ x. up_to k x.1) (when b (λ value. one_token some_integer tt ▸ a_value value)) t
    sign_each true t = inl (through (token_laws n some_integer) laws (λ value ws rest s h. tt))
    sign_each false t = inr (refused_all t)

    word_each : (b : Bool) (t : TokenV) → Lawful n BehindArgument (λ rest. cond b (wrong t causes.Operand) (after_attribute rest) >>= λ x. up_to k x.1) (unless b a_behind_word) ⊎ Refuses (λ rest. cond b (wrong t causes.Operand) (after_attribute rest) >>= λ x. up_to k x.1) (unless b a_behind_word) t
    word_each true t = inr (refused_all t)
    word_each false t = inl behind_word_laws

    kind_each : (j : TokenKind) (t : TokenV) → Lawful n BehindArgument (λ rest. attribute_by j t rest >>= λ x. up_to k x.1) (led_by j t) ⊎ Refuses (λ rest. attribute_by j t rest >>= λ x. up_to k x.1) (led_by j t) t
    kind_each kind.Word t = word_each (is_refused t) t
    kind_each kind.Text t = inl (through (after_string_laws n) laws (λ value ws rest s h. record { none = value_apart 61 value ws rest refl refl refl refl s; fits = tt }))
    kind_each kind.Punct t = sign_each (is_mark 35 t) t
    kind_each kind.GlobalName t = sign_each (is_mark 35 t) t
    kind_each kind.LocalName t = sign_each (is_mark 35 t) t
    kind_each kind.Label t = sign_each (is_mark 35 t) t
    kind_each kind.Integer t = sign_each (is_mark 35 t) t

    pass_each : (b : Bool) (t : TokenV) → Lawful n BehindArgument (λ rest. cond b (attribute_by t.kind t rest) (wrong t causes.Operand) >>= λ x. up_to k x.1) (when b (led_by t.kind t))
        ⊎ Refuses (λ rest. cond b (attribute_by t.kind t rest) (wrong t causes.Operand) >>= λ x. up_to k x.1) (when b (led_by t.kind t)) t
    pass_each true t = kind_each t.kind t
    pass_each false t = inr (refused_all t)

    turn_laws : Lawful (suc n) BehindArgument (turn k) (Led led_all)
    unfolding attribute_at
    turn_laws = led_more n BehindArgument (turn k) led_read led_all refl (λ t rest. refl) (λ t. pass_each (may_pass begins_value t) t)

    sign_split : (b : Bool) (value : Value) (ws : List TokenV) → when b (λ v. one_token some_integer tt ▸ a_value v) value ws → (when b (one_token some_integer) tt ▸ a_value value) ws
    sign_split true value ws s = s
    sign_split false value ws s = absurd s

    sign_join : (b : Bool) (value : Value) (ws : List TokenV) → (when b (one_token some_integer) tt ▸ a_value value) ws → when b (λ v. one_token some_integer tt ▸ a_value v) value ws
    sign_join true value ws s = s
    sign_join false value ws s = absurd s.first_spells

    word_split : (b : Bool) (value : Value) (ws : List TokenV) → unless b a_behind_word value ws → (unless b with_word tt ▸ a_value value) ws
    word_split true value ws s = absurd s
    word_split false value ws s = s

    word_join : (b : Bool) (value : Value) (ws : List TokenV) → (unless b with_word tt ▸ a_value value) ws → unless b a_behind_word value ws
    word_join true value ws s = absurd s.first_spells
    word_join false value ws s = s

    kind_split : (j : TokenKind) (t : TokenV) (value : Value) (ws : List TokenV) → led_by j t value ws → (passed_led j t tt ▸ a_value value) ws
    kind_split kind.Word t value ws s = word_split (is_refused t) value ws s
    kind_split kind.Text t value ws s = s
    kind_split kind.Punct t value ws s = sign_split (is_mark 35 t) value ws s
    kind_split kind.GlobalName t value ws s = sign_split (is_mark 35 t) value ws s
    kind_split kind.LocalName t value ws s = sign_split (is_mark 35 t) value ws s
    kind_split kind.Label t value ws s = sign_split (is_mark 35 t) value ws s
    kind_split kind.Integer t value ws s = sign_split (is_mark 35 t) value ws s

    kind_join : (j : TokenKind) (t : TokenV) (value : Value) (ws : List TokenV) → (passed_led j t tt ▸ a_value value) ws → led_by j t value ws
    kind_join kind.Word t value ws s = word_join (is_refused t) value ws s
    kind_join kind.Text t value ws s = s
    kind_join kind.Punct t value ws s = sign_join (is_mark 35 t) value ws s
    kind_join kind.GlobalName t value ws s = sign_join (is_mark 35 t) value ws s
    kind_join kind.LocalName t value ws s = sign_join (is_mark 35 t) value ws s
    kind_join kind.Label t value ws s = sign_join (is_mark 35 t) value ws s
    kind_join kind.Integer t value ws s = sign_join (is_mark 35 t) value ws s

    pass_split : (b : Bool) (t : TokenV) (value : Value) (ws : List TokenV) → when b (led_by t.kind t) value ws → (when b (passed_led t.kind t) tt ▸ a_value value) ws
    pass_split true t value ws s = kind_split t.kind t value ws s
    pass_split false t value ws s = absurd s

    pass_join : (b : Bool) (t : TokenV) (value : Value) (ws : List TokenV) → (when b (passed_led t.kind t) tt ▸ a_value value) ws → when b (led_by t.kind t) value ws
    pass_join true t value ws s = kind_join t.kind t value ws s
    pass_join false t value ws s = absurd s.first_spells

    abbrev a_turn : Spelling Value
    a_turn value = passed_unless begins_value tt ▸ a_value value

    turn_to : (value : Value) (ws : List TokenV) → Led led_all value ws → a_turn value ws
    turn_to value ws l =
        let s = pass_split (may_pass begins_value l.token) l.token value l.rest l.rest_spells in
        record {
          front = l.token ∷ s.front;
          rest = s.rest;
          parts = l.parts ∙ ap (λ (u : List TokenV). l.token ∷ u) s.parts;
          first_spells = record { token = l.token; rest = s.front; parts = refl; rest_spells = s.first_spells };
          rest_spells = s.rest_spells;
        }

    turn_from : (value : Value) (ws : List TokenV) → a_turn value ws → Led led_all value ws
    turn_from value ws s =
        let l = s.first_spells in
        record {
          token = l.token;
          rest = l.rest ++ s.rest;
          parts = s.parts ∙ ap (λ (u : List TokenV). u ++ s.rest) l.parts;
          rest_spells = pass_join (may_pass begins_value l.token) l.token value (l.rest ++ s.rest) (record { front = l.rest; rest = s.rest; parts = refl; first_spells = l.rest_spells; rest_spells = s.rest_spells });
        }

    turn_opens : (value : Value) (ws : List TokenV) → a_turn value ws → Opens (may_pass begins_value) ws
    turn_opens value ws s = both_opens (may_pass begins_value) (passed_unless begins_value tt) (a_value value) ws (λ us p. passed_opens begins_value tt us p) s

    operand_no_turn : (value : Value) (ws rest : List TokenV) → an_operand known of value ws → BehindArgument rest → next_is (may_pass begins_value) (ws ++ rest) ≡ false
    operand_no_turn value ws rest s h =
        unopened (may_pass begins_value) ws rest (opens_as begins_operand (λ t. not (may_pass begins_value t)) ws (λ t e. let is : may_pass begins_value t ≡ false = operand_stays t e in rw is refl) (operand_begins known of value ws s))

    more_laws : Lawful (suc n) BehindArgument (up_to (suc k)) a_value
    more_laws =
        reread (suc n) BehindArgument (λ ts. choose (may_pass begins_value) (turn k) (operand_at known of) ts) (up_to (suc k)) a_value (λ ts. sym (up_to_more k ts))
        (respell (suc n) BehindArgument (λ ts. choose (may_pass begins_value) (turn k) (operand_at known of) ts) (λ value ws. an_operand known of value ws ⊎ a_turn value ws) a_value to (λ value ws s. value_cases value ws s)
        (choice (suc n) (may_pass begins_value) BehindArgument anything BehindArgument (turn k) (operand_at known of) a_turn (an_operand known of)
        (respell (suc n) BehindArgument (turn k) (Led led_all) a_turn turn_to turn_from turn_laws) (operand_laws (suc n) known of) turn_opens operand_no_turn (λ rest h. h) (λ rest h. tt)))
      where
        to : (value : Value) (ws : List TokenV) → an_operand known of value ws ⊎ a_turn value ws → a_value value ws
        to value ws (inl s) = none_left value ws s
        to value ws (inr s) = one_more value ws s

  -- ---- all of them

  none_spelled : (value : Value) (ws : List TokenV) → length ws ≤ 0 → a_value value ws → ⊥
  none_spelled value ws short s = let some = value_takes value ws s in absurd (omega arith)

  first_laws : Lawful 0 BehindArgument (up_to 0) a_value
  first_laws =
      let laws = operand_laws 0 known of in
      reread 0 BehindArgument (operand_at known of) (up_to 0) a_value (λ ts. sym (up_to_none ts)) (record {
        sound = λ ts x e. let t = laws.sound ts x e in record { front = t.front; parts = t.parts; spelled = none_left x.0 t.front t.spelled; again = t.again; alone = t.alone };
        complete = λ a ws rest short s f. absurd (none_spelled a ws short s);
        faults = laws.faults;
        begins = laws.begins;
      })

  up_to_laws : (n k : ℕ) → n ≤ k → Lawful n BehindArgument (up_to k) a_value
  up_to_laws zero zero le = first_laws
  up_to_laws (suc n) zero le = absurd (omega arith)
  up_to_laws zero (suc k) le = lower 1 0 BehindArgument (up_to (suc k)) a_value (omega arith) (more_laws 0 k (up_to_laws 0 k (omega arith)))
  up_to_laws (suc n) (suc k) le = more_laws n k (up_to_laws n k (omega arith))

  all_of : (ts : List TokenV) → up_to (length ts) ts ≡ (attributes_at ts >>= λ passed. operand_at known of passed.1)
  unfolding up_to repeated_under
  all_of ts = forget (repeated_to (may_pass begins_value) (λ _. attribute_at) stays (length ts) tt ts)
    where
      forget : (o : Outcome (List (Unit {0}))) → (o >>= λ all. operand_at known of all.1) ≡ ((o >>= λ all. done (tt, all.1)) >>= λ passed. operand_at known of passed.1)
      forget (Ok x) = refl
      forget (Err e) = refl

  -- attributes and an operand are read before what ends an argument
  pub value_laws : (n : ℕ) → Lawful n BehindArgument (λ ts. attributes_at ts >>= λ passed. operand_at known of passed.1) a_value
  value_laws n = reread n BehindArgument (λ ts. up_to (length ts) ts) (λ ts. attributes_at ts >>= λ passed. operand_at known of passed.1) a_value all_of (counted n BehindArgument up_to a_value same (λ k le. up_to_laws n k le))
