-- The laws of instructions.
use Rattle.std.proofs.Common.{◌≡◌, ℕ, Bool, true, false, cond, List, [], ◌∷◌, ◌++◌, Option, Some, None, Ok, refl, sym, ap, subst, ◌∙◌, append_assoc, ◌⊎◌, inl, inr}
use Rattle.std.specs.Prelude.{codes, not}
use Rattle.std.proofs.lemmas.Bool.{cases_Bool, or_parts}
use lib.Pointwise.{bytes_decides}
use Rattle.pv_base.specs.declared.name.Name.{Name}
use Rattle.ir_lex.specs.declared.token.TokenKind.{TokenKind}
use Rattle.ir_lex.specs.declared.token.TokenKind.TheVariants as kind
use Rattle.ir_lex.specs.declared.token.Cause.TheVariants as causes
use Rattle.int_num.specs.declared.ops.BinOp.{BinOp}
use Rattle.int_num.specs.declared.ops.CastOp.{CastOp}
use Rattle.ir_tree.specs.declared.instruction.Argument.{Argument}
use Rattle.ir_tree.specs.declared.instruction.Callee.{Callee}
use Rattle.ir_tree.specs.declared.instruction.Instruction.TheVariants as instruction
use Rattle.ir_tree.specs.Trees.{TypeV, ConstantV}
use Rattle.ir_text.specs.Tokens.{TokenV, same, among, is_word, word_is}
use Rattle.ir_text.specs.Reading.{◌>>=◌, token_by}
use Rattle.ir_text.specs.Choice.{Opens}
use Rattle.ir_text.specs.Lawful.{Lawful}
use Rattle.ir_text.specs.Leaves.{mark, mark_at}
use Rattle.ir_text.specs.Operands.{is_local, kind_is_local}
use Rattle.ir_text.specs.Passed.{is_any_word, kind_is_word, may_pass, may_pass_by, stops, stops_at, some_words}
use Rattle.ir_text.specs.Repeated.{Both}
use Rattle.ir_text.specs.Spelled.{InTurn, Led, one_token, by_test, unless}
use Rattle.ir_text.specs.Tails.{some_tails}
use Rattle.ir_text.specs.Types.{Known}
use Rattle.ir_text.specs.TypeSpelled.{a_mark, a_word}
use Rattle.ir_text.proofs.Choices.{in_turn, respell, token_laws}
use Rattle.ir_text.proofs.ChoiceLaws.{choice}
use Rattle.ir_text.proofs.PassedLaws.{passed_opens}
use Rattle.ir_instr.specs.Words.{meaning_of, operations, casts, opcodes, found, worded, worded_by}
use Rattle.ir_instr.specs.Instructions.{defined_by, defined_name, resulting_at, effect_at, assignment_at, instruction_at}
use Rattle.ir_instr.specs.InstructionSpelled.{some_markers, a_call, a_result, an_instruction}
use Rattle.instr_laws.specs.Made.{Made}
use Rattle.instr_laws.specs.Behind.{BehindInstruction}
use Rattle.instr_laws.specs.Forms.{Form, a_binary, a_cast, a_freeze, a_compare, a_select, a_load, a_store, a_return, a_jump_or_branch, a_switch, an_alloca, a_phi, an_address}
use Rattle.instr_laws.proofs.Opening.{unopened, word_by, opens_as, one_opens, the_word}
use Rattle.instr_laws.proofs.Attributes.{through, words_none, words_cases}
use Rattle.instr_laws.proofs.Chains.{Tokens, apart, last2, last3, last4, last5, last6, last7, last8, one2, one3, one4, one5, one6, one7, one8}
use Rattle.instr_laws.proofs.Opcodes.{listed, unlisted}
use Rattle.instr_laws.proofs.DispatchLaws.{Instr, Unlike, tailed, by_cast, by_operation, by_kind, led_form, a_form, marked_form, a_resulting, resulting_laws, an_end, effect_by_kind, led_effect, an_effect_form, an_effect, effect_laws}

-- ---- tokens in a row

prefixed : (a c : Tokens) (pre ws : List TokenV) → a pre → c ws → Both a c (pre ++ ws)
prefixed a c pre ws first rest = record { front = pre; rest = ws; parts = refl; first_spells = first; rest_spells = rest }

-- what is made of parts, with what is passed over behind it
record Untailed {X : Type 0} (make : X → Instr) (spells : X → Tokens) (i : Instr) (ws : List TokenV) : Type 0 where
  parts : X
  is : make parts ≡ i
  spelled : Both (spells parts) (some_tails tt) ws

untail : {X : Type 0} {make : X → Instr} {spells : X → Tokens} {i : Instr} (ws : List TokenV) → tailed (Made make spells) i ws → Untailed make spells i ws
untail ws s = record { parts = s.first_spells.parts; is = s.first_spells.is; spelled = record { front = s.front; rest = s.rest; parts = s.parts; first_spells = s.first_spells.spelled; rest_spells = s.rest_spells } }

retail : {X : Type 0} (make : X → Instr) (spells : X → Tokens) (p : X) (ws : List TokenV) → Both (spells p) (some_tails tt) ws → tailed (Made make spells) (make p) ws
retail make spells p ws s = record { front = s.front; rest = s.rest; parts = s.parts; first_spells = record { parts = p; is = refl; spelled = s.first_spells }; rest_spells = s.rest_spells }

worded_token : (w : List ℕ) (k : TokenKind) (text : List ℕ) → k ≡ kind.Word → same text w ≡ true → word_is w k text ≡ true
worded_token w k text is e = subst (λ (j : TokenKind). word_is w j text ≡ true) (sym is) e

-- a word, and what stands behind it
word_first : (w : List ℕ) (c : Tokens) (t : TokenV) (us : List TokenV) → t.kind ≡ kind.Word → same t.text w ≡ true → c us → Both (a_word w) c (t ∷ us)
word_first w c t us is e s =
    let here : is_word w t ≡ true = worded_token w t.kind t.text is e in
    record { front = t ∷ []; rest = us; parts = refl; first_spells = record { token = t; parts = refl; is = rw here refl }; rest_spells = s }

-- ---- with a result: from the reading's order to the instruction's

module _ (known : Known) (next : ℕ) (defined : List Name) (to : Name) (pre : List TokenV) (result : a_result known next defined to pre) (t : TokenV) (us : List TokenV) (is_word_kind : t.kind ≡ kind.Word) where
  abbrev whole : List TokenV
  whole = pre ++ t ∷ us

  abbrev Goal : Instr → Type 0
  Goal i = an_instruction known next defined i whole

  binary_to : (operation : BinOp) (i : Instr) → meaning_of operations t.text ≡ Some operation → tailed (a_binary known to operation) i us → Goal i
  binary_to operation i e s =
      let u = untail us s in
      subst Goal u.is (prefixed (a_result known next defined to) _ pre (t ∷ us) result
      (record { front = t ∷ []; rest = us; parts = refl; first_spells = record { token = t; parts = refl; is = ap (λ (k : TokenKind). worded_by operations k t.text) is_word_kind ∙ ap (λ (o : Option BinOp). found o causes.Operand) e }; rest_spells = last5 us u.spelled }))

  cast_to : (operation : CastOp) (i : Instr) → meaning_of casts t.text ≡ Some operation → tailed (a_cast known to operation) i us → Goal i
  cast_to operation i e s =
      let u = untail us s in
      subst Goal u.is (prefixed (a_result known next defined to) _ pre (t ∷ us) result
      (record { front = t ∷ []; rest = us; parts = refl; first_spells = record { token = t; parts = refl; is = ap (λ (k : TokenKind). worded_by casts k t.text) is_word_kind ∙ ap (λ (o : Option CastOp). found o causes.Operand) e }; rest_spells = last5 us u.spelled }))

  word_to : (a b c d e f g : Bool) (i : Instr) → same t.text (codes "freeze") ≡ a → same t.text (codes "icmp") ≡ b → same t.text (codes "select") ≡ c → same t.text (codes "phi") ≡ d → same t.text (codes "alloca") ≡ e → same t.text (codes "load") ≡ f → same t.text (codes "getelementptr") ≡ g
      → by_test a (tailed (a_freeze known to)) (by_test b (tailed (a_compare known to)) (by_test c (tailed (a_select known to)) (by_test d (a_phi known to) (by_test e (an_alloca known to) (by_test f (tailed (a_load known to)) (by_test g (an_address known to) (λ j ws. ⊥))))))) i us
      → Goal i
  word_to true b c d e f g i ea eb ec ed ee ef eg s = let u = untail us s in subst Goal u.is (prefixed (a_result known next defined to) _ pre (t ∷ us) result (word_first (codes "freeze") _ t us is_word_kind ea (last2 us u.spelled)))
  word_to false true c d e f g i ea eb ec ed ee ef eg s = let u = untail us s in subst Goal u.is (prefixed (a_result known next defined to) _ pre (t ∷ us) result (word_first (codes "icmp") _ t us is_word_kind eb (last6 us u.spelled)))
  word_to false false true d e f g i ea eb ec ed ee ef eg s = let u = untail us s in subst Goal u.is (prefixed (a_result known next defined to) _ pre (t ∷ us) result (word_first (codes "select") _ t us is_word_kind ec (last8 us u.spelled)))
  word_to false false false true e f g i ea eb ec ed ee ef eg s = subst Goal s.is (prefixed (a_result known next defined to) _ pre (t ∷ us) result (word_first (codes "phi") _ t us is_word_kind ed s.spelled))
  word_to false false false false true f g i ea eb ec ed ee ef eg s = subst Goal s.is (prefixed (a_result known next defined to) _ pre (t ∷ us) result (word_first (codes "alloca") _ t us is_word_kind ee s.spelled))
  word_to false false false false false true g i ea eb ec ed ee ef eg s = let u = untail us s in subst Goal u.is (prefixed (a_result known next defined to) _ pre (t ∷ us) result (word_first (codes "load") _ t us is_word_kind ef (last3 us u.spelled)))
  word_to false false false false false false true i ea eb ec ed ee ef eg s = subst Goal s.is (prefixed (a_result known next defined to) _ pre (t ∷ us) result (word_first (codes "getelementptr") _ t us is_word_kind eg s.spelled))
  word_to false false false false false false false i ea eb ec ed ee ef eg s = absurd s

  by_cast_to : (o : Option CastOp) (i : Instr) → meaning_of casts t.text ≡ o → by_cast known to o t.text i us → Goal i
  by_cast_to (Some operation) i e s = cast_to operation i e s
  by_cast_to None i e s = word_to (same t.text (codes "freeze")) (same t.text (codes "icmp")) (same t.text (codes "select")) (same t.text (codes "phi")) (same t.text (codes "alloca")) (same t.text (codes "load")) (same t.text (codes "getelementptr")) i refl refl refl refl refl refl refl s

  by_operation_to : (o : Option BinOp) (i : Instr) → meaning_of operations t.text ≡ o → by_operation known to o t.text i us → Goal i
  by_operation_to (Some operation) i e s = binary_to operation i e s
  by_operation_to None i e s = by_cast_to (meaning_of casts t.text) i refl s

module _ (known : Known) (next : ℕ) (defined : List Name) where
  kind_to : (to : Name) (pre : List TokenV) → a_result known next defined to pre → (t : TokenV) (us : List TokenV) (k : TokenKind) (b : Bool) (i : Instr) → t.kind ≡ k → unless b (by_kind known to k t.text) i us → an_instruction known next defined i (pre ++ t ∷ us)
  kind_to to pre result t us k true i is s = absurd s
  kind_to to pre result t us kind.Word false i is s = by_operation_to known next defined to pre result t us is (meaning_of operations t.text) i refl s
  kind_to to pre result t us kind.Punct false i is s = absurd s
  kind_to to pre result t us kind.GlobalName false i is s = absurd s
  kind_to to pre result t us kind.LocalName false i is s = absurd s
  kind_to to pre result t us kind.Label false i is s = absurd s
  kind_to to pre result t us kind.Integer false i is s = absurd s
  kind_to to pre result t us kind.Text false i is s = absurd s

  form_to : (to : Name) (pre : List TokenV) → a_result known next defined to pre → (i : Instr) (ws : List TokenV) → a_form known to i ws → an_instruction known next defined i (pre ++ ws)
  form_to to pre result i ws s = subst (λ (u : List TokenV). an_instruction known next defined i (pre ++ u)) (sym s.parts) (kind_to to pre result s.token s.rest s.token.kind (Unlike s.token) i refl s.rest_spells)

  -- ---- calls

  unlike_word_by : (k : TokenKind) (text : List ℕ) → word_by (λ w. not (listed w)) k text ≡ true → kind_is_word k ≡ true
  unlike_word_by kind.Word text e = refl
  unlike_word_by kind.Punct text e = absurd cc
  unlike_word_by kind.GlobalName text e = absurd cc
  unlike_word_by kind.LocalName text e = absurd cc
  unlike_word_by kind.Label text e = absurd cc
  unlike_word_by kind.Integer text e = absurd cc
  unlike_word_by kind.Text text e = absurd cc

  markers_to : (us front rest : List TokenV) → us ≡ front ++ rest → Opens Unlike us → some_words (stops opcodes false) tt front → some_markers front
  markers_to us [] rest parts o s = inl refl
  markers_to us (u ∷ front) rest parts o s =
      let same_list : o.token ∷ o.rest ≡ u ∷ (front ++ rest) = sym o.parts ∙ parts in
      let first : o.token ≡ u = cc in
      inr (record { token = u; rest = front; parts = refl; is = ap is_any_word (sym first) ∙ unlike_word_by o.token.kind o.token.text o.is }, s)

  abbrev Arguments : Type 0
  Arguments = List (Argument Name TypeV ConstantV)

  call_to : (to : Option Name) (i : Instr) (ws : List TokenV) → marked_form 0 known to i ws → Opens Unlike ws
      → (of : TypeV) × (variadic : Bool) × (what : Callee Name) × (arguments : Arguments) × (instruction.Call to of variadic what arguments ≡ i) × a_call known to of variadic what arguments ws
  call_to to i ws s o =
      let c = s.rest_spells in
      let u = untail c.rest c.rest_spells in (
        u.parts.0,
        u.parts.1.0,
        u.parts.1.1.0,
        u.parts.1.1.1,
        u.is,
        record {
          front = s.front;
          rest = s.rest;
          parts = s.parts;
          first_spells = markers_to ws s.front s.rest s.parts o s.first_spells;
          rest_spells = record { front = c.front; rest = c.rest; parts = c.parts; first_spells = c.first_spells; rest_spells = last7 c.rest u.spelled };
        },
      )

  marked_to : (to : Name) (pre : List TokenV) → a_result known next defined to pre → (i : Instr) (ws : List TokenV) → marked_form 0 known (Some to) i ws → Opens Unlike ws → an_instruction known next defined i (pre ++ ws)
  marked_to to pre result i ws s o =
      let c = call_to (Some to) i ws s o in
      subst (λ (j : Instr). an_instruction known next defined j (pre ++ ws)) c.4 (prefixed (a_result known next defined to) _ pre ws result c.5)

  bare_to : (i : Instr) (ws : List TokenV) → marked_form 0 known None i ws → Opens Unlike ws → an_instruction known next defined i ws
  bare_to i ws s o = let c = call_to None i ws s o in subst (λ (j : Instr). an_instruction known next defined j ws) c.4 c.5

  -- ---- without a result

  module _ (t : TokenV) (us : List TokenV) (is_word_kind : t.kind ≡ kind.Word) where
    abbrev Effect : Instr → Type 0
    Effect i = an_instruction known next defined i (t ∷ us)

    branch_to : (i : Instr) → same t.text (codes "br") ≡ true → tailed (a_jump_or_branch known) i us → Effect i
    branch_to i e s = by_form s.first_spells
      where
        by_form : a_jump_or_branch known i s.front → Effect i
        by_form (inl b) =
            subst Effect b.is (word_first (codes "br") _ t us is_word_kind e (last6 us (record { front = s.front; rest = s.rest; parts = s.parts; first_spells = b.spelled; rest_spells = s.rest_spells })))
        by_form (inr j) =
            subst Effect j.is (word_first (codes "br") _ t us is_word_kind e (record { front = s.front; rest = s.rest; parts = s.parts; first_spells = j.spelled; rest_spells = s.rest_spells }))

    end_to : (i : Instr) → same t.text (codes "unreachable") ≡ true → tailed (an_end known) i us → Effect i
    end_to i e s =
        let u = untail us s in
        let same_rest : us ≡ u.spelled.rest = u.spelled.parts ∙ ap (λ (v : List TokenV). v ++ u.spelled.rest) u.spelled.first_spells in
        subst Effect u.is (word_first (codes "unreachable") _ t us is_word_kind e (subst (some_tails tt) (sym same_rest) u.spelled.rest_spells))

    effect_word_to : (a b c d e : Bool) (i : Instr) → same t.text (codes "store") ≡ a → same t.text (codes "ret") ≡ b → same t.text (codes "br") ≡ c → same t.text (codes "switch") ≡ d → same t.text (codes "unreachable") ≡ e
        → by_test a (tailed (a_store known)) (by_test b (tailed (a_return known)) (by_test c (tailed (a_jump_or_branch known)) (by_test d (tailed (a_switch known)) (by_test e (tailed (an_end known)) (λ j ws. ⊥))))) i us → Effect i
    effect_word_to true b c d e i ea eb ec ed ee s = let u = untail us s in subst Effect u.is (word_first (codes "store") _ t us is_word_kind ea (last4 us u.spelled))
    effect_word_to false true c d e i ea eb ec ed ee s = let u = untail us s in subst Effect u.is (word_first (codes "ret") _ t us is_word_kind eb u.spelled)
    effect_word_to false false true d e i ea eb ec ed ee s = branch_to i ec s
    effect_word_to false false false true e i ea eb ec ed ee s = let u = untail us s in subst Effect u.is (word_first (codes "switch") _ t us is_word_kind ed (last7 us u.spelled))
    effect_word_to false false false false true i ea eb ec ed ee s = end_to i ee s
    effect_word_to false false false false false i ea eb ec ed ee s = absurd s

  effect_kind_to : (t : TokenV) (us : List TokenV) (k : TokenKind) (b : Bool) (i : Instr) → t.kind ≡ k → unless b (effect_by_kind known k t.text) i us → an_instruction known next defined i (t ∷ us)
  effect_kind_to t us k true i is s = absurd s
  effect_kind_to t us kind.Word false i is s = effect_word_to t us is (same t.text (codes "store")) (same t.text (codes "ret")) (same t.text (codes "br")) (same t.text (codes "switch")) (same t.text (codes "unreachable")) i refl refl refl refl refl s
  effect_kind_to t us kind.Punct false i is s = absurd s
  effect_kind_to t us kind.GlobalName false i is s = absurd s
  effect_kind_to t us kind.LocalName false i is s = absurd s
  effect_kind_to t us kind.Label false i is s = absurd s
  effect_kind_to t us kind.Integer false i is s = absurd s
  effect_kind_to t us kind.Text false i is s = absurd s

  effect_form_to : (i : Instr) (ws : List TokenV) → an_effect_form known i ws → an_instruction known next defined i ws
  effect_form_to i ws s = subst (λ (u : List TokenV). an_instruction known next defined i u) (sym s.parts) (effect_kind_to s.token s.rest s.token.kind (Unlike s.token) i refl s.rest_spells)

-- ---- and back

word_kind_by : (w : List ℕ) (k : TokenKind) (text : List ℕ) → word_is w k text ≡ true → (k ≡ kind.Word) × (text ≡ w)
word_kind_by w kind.Word text e = (refl, (bytes_decides text w).0 e)
word_kind_by w kind.Punct text e = absurd cc
word_kind_by w kind.GlobalName text e = absurd cc
word_kind_by w kind.LocalName text e = absurd cc
word_kind_by w kind.Label text e = absurd cc
word_kind_by w kind.Integer text e = absurd cc
word_kind_by w kind.Text text e = absurd cc

-- tokens that begin with a word are led by it
word_leads : (by : TokenKind → List ℕ → Form) (w : List ℕ) (c : Tokens) (i : Instr) (ws : List TokenV) → Both (a_word w) c ws → ((us : List TokenV) → c us → by kind.Word w i us) → Led (λ t. by t.kind t.text) i ws
word_leads by w c i ws s to =
    let a = s.first_spells in
    let p = word_kind_by w a.token.kind a.token.text (the_word w a.token tt a.is) in
    record {
      token = a.token;
      rest = s.rest;
      parts = s.parts ∙ ap (λ (u : List TokenV). u ++ s.rest) a.parts;
      rest_spells = subst (λ (k : TokenKind). by k a.token.text i s.rest) (sym p.0) (subst (λ (x : List ℕ). by kind.Word x i s.rest) (sym p.1) (to s.rest s.rest_spells));
    }

worded_kind_by : {A : Type 0} (table : List (List ℕ × A)) (k : TokenKind) (text : List ℕ) (a : A) → worded_by table k text ≡ Ok a → (k ≡ kind.Word) × (meaning_of table text ≡ Some a)
worded_kind_by {A} table kind.Word text a e = (refl, by_meaning (meaning_of table text) refl e)
  where
    by_meaning : (o : Option A) → meaning_of table text ≡ o → found o causes.Operand ≡ Ok a → meaning_of table text ≡ Some a
    by_meaning (Some b) is h = let same : b ≡ a = cc in is ∙ ap (λ (x : A). Some x) same
    by_meaning None is h = absurd cc
worded_kind_by table kind.Punct text a e = absurd cc
worded_kind_by table kind.GlobalName text a e = absurd cc
worded_kind_by table kind.LocalName text a e = absurd cc
worded_kind_by table kind.Label text a e = absurd cc
worded_kind_by table kind.Integer text a e = absurd cc
worded_kind_by table kind.Text text a e = absurd cc

-- a word of an operation begins an instruction
operation_listed : (text : List ℕ) (operation : BinOp) → meaning_of operations text ≡ Some operation → listed text ≡ true
operation_listed text operation e =
    elim (cases_Bool (listed text)) [
      | inl is ↦ is
      | inr none ↦ let u = unlisted text none in let clash = sym e ∙ u.operations_none in absurd cc
    ]

cast_listed : (text : List ℕ) (operation : CastOp) → meaning_of casts text ≡ Some operation → listed text ≡ true
cast_listed text operation e =
    elim (cases_Bool (listed text)) [
      | inl is ↦ is
      | inr none ↦ let u = unlisted text none in let clash = sym e ∙ u.casts_none in absurd cc
    ]

-- and no word is that of both
cast_no_operation : (text : List ℕ) (operation : CastOp) → meaning_of casts text ≡ Some operation → meaning_of operations text ≡ None
unfolding meaning_of
cast_no_operation text operation e = by_trunc (same text (codes "trunc")) refl
  where
    by_text : (w : List ℕ) → same text w ≡ true → meaning_of operations w ≡ None → meaning_of operations text ≡ None
    by_text w is none = ap (meaning_of operations) ((bytes_decides text w).0 is) ∙ none

    by_sext : (b : Bool) → same text (codes "trunc") ≡ false → same text (codes "zext") ≡ false → same text (codes "sext") ≡ b → meaning_of operations text ≡ None
    by_sext true et ez is = by_text (codes "sext") is refl
    by_sext false et ez is = let clash : no_cast ≡ Some operation = rw (et, ez, is) at e in absurd cc
      where
        no_cast : Option CastOp
        no_cast = None

    by_zext : (b : Bool) → same text (codes "trunc") ≡ false → same text (codes "zext") ≡ b → meaning_of operations text ≡ None
    by_zext true et is = by_text (codes "zext") is refl
    by_zext false et is = by_sext (same text (codes "sext")) et is refl

    by_trunc : (b : Bool) → same text (codes "trunc") ≡ b → meaning_of operations text ≡ None
    by_trunc true is = by_text (codes "trunc") is refl
    by_trunc false is = by_zext (same text (codes "zext")) is refl

module _ (known : Known) (to : Name) where
  binary_leads : (operation : BinOp) (c : Tokens) (i : Instr) (ws : List TokenV) → Both (one_token (worded operations) operation) c ws → ((us : List TokenV) → c us → tailed (a_binary known to operation) i us) → a_form known to i ws
  binary_leads operation c i ws s from =
      let a = s.first_spells in
      let p = worded_kind_by operations a.token.kind a.token.text operation a.is in
      let l = operation_listed a.token.text operation p.1 in
      let m = p.1 in
      let here : led_form known to kind.Word a.token.text i s.rest = rw (l, m) (from s.rest s.rest_spells) in
      record {
        token = a.token;
        rest = s.rest;
        parts = s.parts ∙ ap (λ (u : List TokenV). u ++ s.rest) a.parts;
        rest_spells = subst (λ (k : TokenKind). led_form known to k a.token.text i s.rest) (sym p.0) here;
      }

  cast_leads : (operation : CastOp) (c : Tokens) (i : Instr) (ws : List TokenV) → Both (one_token (worded casts) operation) c ws → ((us : List TokenV) → c us → tailed (a_cast known to operation) i us) → a_form known to i ws
  cast_leads operation c i ws s from =
      let a = s.first_spells in
      let p = worded_kind_by casts a.token.kind a.token.text operation a.is in
      let l = cast_listed a.token.text operation p.1 in
      let none = cast_no_operation a.token.text operation p.1 in
      let m = p.1 in
      let here : led_form known to kind.Word a.token.text i s.rest = rw (l, none, m) (from s.rest s.rest_spells) in
      record {
        token = a.token;
        rest = s.rest;
        parts = s.parts ∙ ap (λ (u : List TokenV). u ++ s.rest) a.parts;
        rest_spells = subst (λ (k : TokenKind). led_form known to k a.token.text i s.rest) (sym p.0) here;
      }

-- ---- calls

marker_unlike_by : (k : TokenKind) (t : TokenV) → may_pass_by k (stops opcodes false) t ≡ true → kind_is_word k ≡ true → word_by (λ w. not (listed w)) k t.text ≡ true
unfolding stops_at
marker_unlike_by kind.Word t e w =
    let none = or_parts (among opcodes t.text) false (not_stop (stops_at opcodes false t.text) e) in
    by_call (same t.text (codes "call")) none.0
  where
    not_stop : (b : Bool) → not b ≡ true → b ≡ false
    not_stop true h = absurd cc
    not_stop false h = refl

    by_call : (b : Bool) → among opcodes t.text ≡ false → not (cond b false (among opcodes t.text)) ≡ true
    by_call true h = refl
    by_call false h = rw h refl
marker_unlike_by kind.Punct t e w = absurd cc
marker_unlike_by kind.GlobalName t e w = absurd cc
marker_unlike_by kind.LocalName t e w = absurd cc
marker_unlike_by kind.Label t e w = absurd cc
marker_unlike_by kind.Integer t e w = absurd cc
marker_unlike_by kind.Text t e w = absurd cc

marker_unlike : (t : TokenV) → may_pass (stops opcodes false) t ≡ true → is_any_word t ≡ true → Unlike t ≡ true
unfolding may_pass
marker_unlike t e w = marker_unlike_by t.kind t e w

call_unlike_by : (k : TokenKind) (text : List ℕ) → word_is (codes "call") k text ≡ true → word_by (λ w. not (listed w)) k text ≡ true
unfolding among
call_unlike_by kind.Word text e = let here : text ≡ codes "call" = (bytes_decides text (codes "call")).0 e in rw here refl
call_unlike_by kind.Punct text e = absurd cc
call_unlike_by kind.GlobalName text e = absurd cc
call_unlike_by kind.LocalName text e = absurd cc
call_unlike_by kind.Label text e = absurd cc
call_unlike_by kind.Integer text e = absurd cc
call_unlike_by kind.Text text e = absurd cc

pub markers_words : (ws : List TokenV) → some_markers ws → some_words (stops opcodes false) tt ws
markers_words ws (inl none) = subst (some_words (stops opcodes false) tt) (sym none) (words_none (stops opcodes false))
markers_words ws (inr s) = s.1

pub markers_open : (c : Tokens) (ws front rest : List TokenV) → ws ≡ front ++ rest → some_markers front → Both (a_word (codes "call")) c rest → Opens Unlike ws
markers_open c ws front rest parts (inl none) s =
    let a = s.first_spells in
    record { token = a.token; rest = s.rest; parts = parts ∙ ap (λ (u : List TokenV). u ++ rest) none ∙ s.parts ∙ ap (λ (u : List TokenV). u ++ s.rest) a.parts; is = call_unlike_by a.token.kind a.token.text (the_word (codes "call") a.token tt a.is) }
markers_open c ws front rest parts (inr m) s =
    elim (words_cases (stops opcodes false) front m.1) [
      | inl none ↦ let o = m.0 in let clash : [] ≡ o.token ∷ o.rest = sym none ∙ o.parts in absurd cc
      | inr more ↦
          let o = m.0 in
          let p = passed_opens (stops opcodes false) tt more.front more.first_spells in
          let both : o.token ∷ o.rest ≡ p.token ∷ (p.rest ++ more.rest) = sym o.parts ∙ more.parts ∙ ap (λ (u : List TokenV). u ++ more.rest) p.parts in
          let first : p.token ≡ o.token = cc in
          let passes : may_pass (stops opcodes false) o.token ≡ true = ap (may_pass (stops opcodes false)) (sym first) ∙ p.is in
          record { token = o.token; rest = o.rest ++ rest; parts = parts ∙ ap (λ (u : List TokenV). u ++ rest) o.parts; is = marker_unlike o.token passes o.is }
    ]

module _ (n : ℕ) (known : Known) (next : ℕ) (defined : List Name) where
  call_from : (to : Option Name) (of : TypeV) (variadic : Bool) (what : Callee Name) (arguments : List (Argument Name TypeV ConstantV)) (ws : List TokenV) → a_call known to of variadic what arguments ws
      → marked_form n known to (instruction.Call to of variadic what arguments) ws × Opens Unlike ws
  call_from to of variadic what arguments ws s =
      let c = s.rest_spells in (
        record {
          front = s.front;
          rest = s.rest;
          parts = s.parts;
          first_spells = markers_words s.front s.first_spells;
          rest_spells = record {
            front = c.front;
            rest = c.rest;
            parts = c.parts;
            first_spells = c.first_spells;
            rest_spells = retail (λ (p : TypeV × (Bool × (Callee Name × List (Argument Name TypeV ConstantV)))). instruction.Call to p.0 p.1.0 p.1.1.0 p.1.1.1) _ (of, (variadic, (what, arguments))) c.rest (one7 c.rest c.rest_spells);
          };
        },
        markers_open _ ws s.front s.rest s.parts s.first_spells c,
      )

  abbrev pub an_assignment : Form
  an_assignment = InTurn (one_token (defined_name next defined)) (λ to. λ i. Both (a_mark 61) (a_resulting known to n i))

  assigned : (to : Name) (c : Tokens) (i : Instr) (ws : List TokenV) → Both (a_result known next defined to) c ws → ((us : List TokenV) → c us → a_resulting known to n i us) → an_assignment i ws
  assigned to c i ws s from =
      let b = apart (one_token (defined_name next defined) to) (a_mark 61) c ws s in
      record {
        value = to;
        front = b.front;
        rest = b.rest;
        parts = b.parts;
        first_spells = b.first_spells;
        rest_spells = record { front = b.rest_spells.front; rest = b.rest_spells.rest; parts = b.rest_spells.parts; first_spells = b.rest_spells.first_spells; rest_spells = from b.rest_spells.rest b.rest_spells.rest_spells };
      }

  by_first_word : (to : Name) (w : List ℕ) (c : Tokens) (i : Instr) (ws : List TokenV) → Both (a_result known next defined to) (Both (a_word w) c) ws → ((us : List TokenV) → c us → led_form known to kind.Word w i us) → an_assignment i ws
  by_first_word to w c i ws s from = assigned to _ i ws s (λ us h. inl (word_leads (led_form known to) w c i us h from))

  effect_word : (w : List ℕ) (c : Tokens) (i : Instr) (ws : List TokenV) → Both (a_word w) c ws → ((us : List TokenV) → c us → led_effect known kind.Word w i us) → an_effect known n i ws
  effect_word w c i ws s from = inl (word_leads (led_effect known) w c i ws s from)

  -- ---- from an instruction to the reading's order

  abbrev pub Read : Form
  Read i ws = an_effect known n i ws ⊎ an_assignment i ws

  pub from : (i : Instr) (ws : List TokenV) → an_instruction known next defined i ws → Read i ws
  unfolding meaning_of among
  from (instruction.Binary to operation flags of left right) ws s =
      inr (assigned to _ (instruction.Binary to operation flags of left right) ws s (λ us h. inl (binary_leads known to operation _ (instruction.Binary to operation flags of left right) us h (λ vs c. retail _ _ (flags, (of, (left, right))) vs (one5 vs c)))))
  from (instruction.Cast to operation flags of value target) ws s =
      inr (assigned to _ (instruction.Cast to operation flags of value target) ws s (λ us h. inl (cast_leads known to operation _ (instruction.Cast to operation flags of value target) us h (λ vs c. retail _ _ (flags, (of, (value, target))) vs (one5 vs c)))))
  from (instruction.Freeze to of value) ws s = inr (by_first_word to (codes "freeze") _ (instruction.Freeze to of value) ws s (λ vs c. retail _ _ (of, value) vs (one2 vs c)))
  from (instruction.Compare to pred of left right) ws s = inr (by_first_word to (codes "icmp") _ (instruction.Compare to pred of left right) ws s (λ vs c. retail _ _ (pred, (of, (left, right))) vs (one6 vs c)))
  from (instruction.Select to condition of on_true on_false) ws s = inr (by_first_word to (codes "select") _ (instruction.Select to condition of on_true on_false) ws s (λ vs c. retail _ _ (condition, (of, (on_true, on_false))) vs (one8 vs c)))
  from (instruction.Phi to of arms) ws s = inr (by_first_word to (codes "phi") _ (instruction.Phi to of arms) ws s (λ vs c. record { parts = (of, arms); is = refl; spelled = c }))
  from (instruction.Alloca to of count) ws s = inr (by_first_word to (codes "alloca") _ (instruction.Alloca to of count) ws s (λ vs c. record { parts = (of, count); is = refl; spelled = c }))
  from (instruction.Load to of pointer) ws s = inr (by_first_word to (codes "load") _ (instruction.Load to of pointer) ws s (λ vs c. retail _ _ (of, pointer) vs (one3 vs c)))
  from (instruction.Store of value pointer) ws s = inl (effect_word (codes "store") _ (instruction.Store of value pointer) ws s (λ vs c. retail _ _ (of, (value, pointer)) vs (one4 vs c)))
  from (instruction.Address to inbounds of base indices) ws s = inr (by_first_word to (codes "getelementptr") _ (instruction.Address to inbounds of base indices) ws s (λ vs c. record { parts = (inbounds, (of, (base, indices))); is = refl; spelled = c }))
  from (instruction.Call (Some to) of variadic what arguments) ws s = inr (assigned to _ (instruction.Call (Some to) of variadic what arguments) ws s (λ us h. inr (call_from (Some to) of variadic what arguments us h)))
  from (instruction.Call None of variadic what arguments) ws s = inl (inr (call_from None of variadic what arguments ws s))
  from (instruction.Return value) ws s = inl (effect_word (codes "ret") _ (instruction.Return value) ws s (λ vs c. retail _ _ value vs c))
  from (instruction.Jump target) ws s = inl (effect_word (codes "br") _ (instruction.Jump target) ws s (λ vs c. record { front = c.front; rest = c.rest; parts = c.parts; first_spells = inr (record { parts = target; is = refl; spelled = c.first_spells }); rest_spells = c.rest_spells }))
  from (instruction.Branch condition on_true on_false) ws s =
      inl (effect_word (codes "br") _ (instruction.Branch condition on_true on_false) ws s (λ vs c.
      let b = one6 vs c in
      record { front = b.front; rest = b.rest; parts = b.parts; first_spells = inl (record { parts = (condition, (on_true, on_false)); is = refl; spelled = b.first_spells }); rest_spells = b.rest_spells }))
  from (instruction.Switch of value default cases) ws s = inl (effect_word (codes "switch") _ (instruction.Switch of value default cases) ws s (λ vs c. retail _ _ (of, (value, (default, cases))) vs (one7 vs c)))
  from instruction.Unreachable ws s =
      inl (effect_word (codes "unreachable") _ instruction.Unreachable ws s (λ vs c. record { front = []; rest = vs; parts = refl; first_spells = record { parts = tt; is = refl; spelled = refl }; rest_spells = c }))

  -- ---- the laws

  assignment_to : (i : Instr) (ws : List TokenV) → an_assignment i ws → an_instruction known next defined i ws
  assignment_to i ws s =
      let r = s.rest_spells in
      let whole : ws ≡ (s.front ++ r.front) ++ r.rest = s.parts ∙ ap (λ (u : List TokenV). s.front ++ u) r.parts ∙ sym (append_assoc s.front r.front r.rest) in
      let result : a_result known next defined s.value (s.front ++ r.front) = record { front = s.front; rest = r.front; parts = refl; first_spells = s.first_spells; rest_spells = r.first_spells } in
      subst (λ (u : List TokenV). an_instruction known next defined i u) (sym whole) (by_form (s.front ++ r.front) result r.rest r.rest_spells)
    where
      by_form : (pre : List TokenV) → a_result known next defined s.value pre → (us : List TokenV) → a_resulting known s.value n i us → an_instruction known next defined i (pre ++ us)
      by_form pre result us (inl f) = form_to known next defined s.value pre result i us f
      by_form pre result us (inr m) = marked_to known next defined s.value pre result i us m.0 m.1

  to : (i : Instr) (ws : List TokenV) → Read i ws → an_instruction known next defined i ws
  to i ws (inr a) = assignment_to i ws a
  to i ws (inl (inl f)) = effect_form_to known next defined i ws f
  to i ws (inl (inr m)) = bare_to known next defined i ws m.0 m.1

  assignment_laws : Lawful n BehindInstruction (assignment_at known next defined) an_assignment
  assignment_laws = in_turn n BehindInstruction (token_by (defined_name next defined)) (λ name ts. mark_at 61 ts >>= λ equals. resulting_at known name equals.1) (one_token (defined_name next defined)) (λ name. λ i. Both (a_mark 61) (a_resulting known name n i)) (token_laws n (defined_name next defined))
      (λ name. through (token_laws n (mark 61)) (resulting_laws known name n) (λ i ws rest s h. tt))

  pub defined_local_by : (k : TokenKind) (t : TokenV) (name : Name) → defined_by next defined k t ≡ Ok name → kind_is_local k ≡ true
  defined_local_by kind.LocalName t name e = refl
  defined_local_by kind.GlobalName t name e = absurd cc
  defined_local_by kind.Label t name e = absurd cc
  defined_local_by kind.Integer t name e = absurd cc
  defined_local_by kind.Word t name e = absurd cc
  defined_local_by kind.Text t name e = absurd cc
  defined_local_by kind.Punct t name e = absurd cc

  assignment_opens : (i : Instr) (ws : List TokenV) → an_assignment i ws → Opens is_local ws
  assignment_opens i ws s =
      let o = one_opens is_local (defined_name next defined) s.value s.front (λ t e. defined_local_by t.kind t s.value e) s.first_spells in
      record { token = o.token; rest = o.rest ++ s.rest; parts = s.parts ∙ ap (λ (u : List TokenV). u ++ s.rest) o.parts; is = o.is }

  led_not_local : (k : TokenKind) (text : List ℕ) (b : Bool) (i : Instr) (us : List TokenV) → unless b (effect_by_kind known k text) i us → not (kind_is_local k) ≡ true
  led_not_local k text true i us s = absurd s
  led_not_local kind.Word text false i us s = refl
  led_not_local kind.LocalName text false i us s = absurd s
  led_not_local kind.GlobalName text false i us s = refl
  led_not_local kind.Label text false i us s = refl
  led_not_local kind.Integer text false i us s = refl
  led_not_local kind.Text text false i us s = refl
  led_not_local kind.Punct text false i us s = refl

  pub unlike_not_local : (k : TokenKind) (text : List ℕ) → word_by (λ w. not (listed w)) k text ≡ true → not (kind_is_local k) ≡ true
  unlike_not_local kind.Word text e = refl
  unlike_not_local kind.LocalName text e = absurd cc
  unlike_not_local kind.GlobalName text e = refl
  unlike_not_local kind.Label text e = refl
  unlike_not_local kind.Integer text e = refl
  unlike_not_local kind.Text text e = refl
  unlike_not_local kind.Punct text e = refl

  pub effect_opens : (i : Instr) (ws : List TokenV) → an_effect known n i ws → Opens (λ t. not (is_local t)) ws
  effect_opens i ws (inl f) = record { token = f.token; rest = f.rest; parts = f.parts; is = led_not_local f.token.kind f.token.text (Unlike f.token) i f.rest f.rest_spells }
  effect_opens i ws (inr m) = opens_as Unlike (λ t. not (is_local t)) ws (λ t e. unlike_not_local t.kind t.text e) m.1

  pub instruction_laws : Lawful n BehindInstruction (instruction_at known next defined) (an_instruction known next defined)
  instruction_laws = respell n BehindInstruction (instruction_at known next defined) Read (an_instruction known next defined) to from
      (choice n is_local BehindInstruction BehindInstruction BehindInstruction (assignment_at known next defined) (effect_at known) an_assignment (an_effect known n) assignment_laws (effect_laws known n) assignment_opens (λ i ws rest s h. unopened is_local ws rest (effect_opens i ws s)) (λ rest h. h) (λ rest h. h))
