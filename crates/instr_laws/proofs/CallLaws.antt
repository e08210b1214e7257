-- The laws of `call`, behind its word.
use Rattle.std.proofs.Common.{◌≡◌, ℕ, Bool, true, false, List, [], ◌∷◌, ◌++◌, Option, Some, None, Ok, Err, refl, sym, ap, subst, ◌∙◌, ◌⊎◌, inl, inr}
use Rattle.std.specs.Prelude.{codes, not, ◌&&◌}
use Rattle.std.proofs.lemmas.Bool.{or_left, or_right}
use Rattle.std.proofs.lemmas.List.{append-nil}
use Rattle.pv_base.specs.declared.name.Name.{Name}
use Rattle.ir_lex.specs.declared.token.TokenKind.{TokenKind}
use Rattle.ir_lex.specs.declared.token.TokenKind.TheVariants as kind
use Rattle.ir_lex.specs.declared.token.Cause.TheVariants as causes
use Rattle.ir_tree.specs.declared.instruction.Argument.{Argument}
use Rattle.ir_tree.specs.declared.instruction.Callee.{Callee}
use Rattle.ir_tree.specs.declared.instruction.Instruction.TheVariants as instruction
use Rattle.ir_tree.specs.Trees.{TypeV, ConstantV}
use Rattle.ir_text.specs.Tokens.{TokenV, is_mark, punct_is}
use Rattle.ir_text.specs.Reading.{Outcome, Reader, ◌>>=◌, gives, token_by, next_is}
use Rattle.ir_text.specs.Choice.{Opens}
use Rattle.ir_text.specs.Lawful.{Follow, Behind, anything, Lawful}
use Rattle.ir_text.specs.Leaves.{mark, word}
use Rattle.ir_text.specs.Lists.{list_at, closed_list}
use Rattle.ir_text.specs.Operands.{operand_at, an_operand}
use Rattle.ir_text.specs.Passed.{AfterWord, AfterPassed, is_type_word, kind_is_integer, may_pass, may_pass_by, stops, stops_at, words_at, some_words}
use Rattle.ir_text.specs.Repeated.{Both}
use Rattle.ir_text.specs.Spelled.{Spelling, InTurn, one_token, nothing}
use Rattle.ir_text.specs.Types.{Known, register_type}
use Rattle.ir_text.specs.TypeSpelled.{◌▸◌, a_mark, a_word}
use Rattle.ir_text.proofs.Laws.{nothing_laws, in_turn_before}
use Rattle.ir_text.proofs.Choices.{respell, token_laws}
use Rattle.ir_text.proofs.ChoiceLaws.{choice}
use Rattle.ir_text.proofs.ListLaws.{list_laws, closed_laws}
use Rattle.ir_text.proofs.Marks.{apart}
use Rattle.ir_text.proofs.PassedLaws.{words_laws}
use Rattle.ir_instr.specs.Words.{opcodes}
use Rattle.ir_instr.specs.Calls.{begins_value, attributes_at, argument_at, points, written_at, variadic_at, called, called_by, answer_type, unbundled, call_at}
use Rattle.ir_instr.specs.InstructionSpelled.{a_function_type, an_argument}
use Rattle.instr_laws.specs.Made.{Made}
use Rattle.instr_laws.specs.Behind.{BehindArgument, BehindCall}
use Rattle.instr_laws.specs.Forms.{Value, a_call_form}
use Rattle.instr_laws.proofs.Rows.{last, before, then, past, pass}
use Rattle.instr_laws.proofs.Opening.{unopened, word_by, word_of, one_opens, both_opens, not_mark, register_word, result_word, the_mark}
use Rattle.instr_laws.proofs.Said.{reread}
use Rattle.instr_laws.proofs.Attributes.{value_laws}

-- ---- arguments

abbrev Item : Type 0
Item = Argument Name TypeV ConstantV

abbrev item : TypeV → Value → Item
item of value = record { of = of; value = value }

module _ (n : ℕ) (known : Known) where
  abbrev made_argument : Spelling Item
  made_argument = Made (λ (p : TypeV × Value). record { of = p.0; value = p.1 }) (λ p. one_token register_type p.0 ▸ some_words begins_value tt ▸ an_operand known p.0 p.1)

  regroup : (of : TypeV) (o : Outcome (Unit {0})) → ((o >>= λ passed. operand_at known of passed.1) >>= λ value. Ok (item of value.0, value.1)) ≡ (o >>= λ passed. operand_at known of passed.1 >>= λ value. Ok (item of value.0, value.1))
  regroup of (Ok x) = refl
  regroup of (Err e) = refl

  behind_type : (of : TypeV) → Lawful n BehindArgument (λ ts. attributes_at ts >>= λ passed. operand_at known of passed.1 >>= λ value. Ok (item of value.0, value.1)) (Made (λ (value : Value). item of value) (λ value. some_words begins_value tt ▸ an_operand known of value))
  behind_type of = reread n BehindArgument (λ ts. (attributes_at ts >>= λ passed. operand_at known of passed.1) >>= λ value. Ok (item of value.0, value.1)) _ _ (λ ts. regroup of (attributes_at ts)) (last (λ (value : Value). item of value) (value_laws known of n))

  pub argument_laws : Lawful n BehindArgument (argument_at known) (an_argument known)
  argument_laws = respell n BehindArgument (argument_at known) made_argument (an_argument known)
      (λ a ws t. subst (λ (x : Item). an_argument known x ws) t.is t.spelled)
      (λ a ws t. record { parts = (a.of, a.value); is = refl; spelled = t })
      (then (token_laws n register_type) (λ (of : TypeV). behind_type of))

  argument_opens : (a : Item) (ws : List TokenV) → an_argument known a ws → Opens (λ t. not (is_mark 41 t)) ws
  argument_opens a ws s = both_opens (λ t. not (is_mark 41 t)) (one_token register_type a.of) _ ws (λ us o. one_opens (λ t. not (is_mark 41 t)) register_type a.of us (λ t e. not_mark is_type_word 41 t (register_word t a.of e)) o) s

  at_comma : (t : TokenV) (rest : List TokenV) → is_mark 44 t ≡ true → BehindArgument (t ∷ rest)
  unfolding next_is
  at_comma t rest e = or_left (is_mark 44 t) (is_mark 41 t) e

  at_close : (t : TokenV) (rest : List TokenV) → is_mark 41 t ≡ true → BehindArgument (t ∷ rest)
  unfolding next_is
  at_close t rest e = or_right (is_mark 44 t) (is_mark 41 t) e

  pub arguments_laws : Lawful n anything (list_at 41 (argument_at known)) (closed_list 41 (an_argument known))
  arguments_laws = closed_laws 41 (an_argument known) n (argument_at known) (list_laws n (argument_at known) (an_argument known) BehindArgument argument_laws at_comma 41 (λ t e. apart 41 44 t refl e) at_close argument_opens)

-- ---- what stands behind words

word_other_mark : (p : List ℕ → Bool) (b : ℕ) (t : TokenV) → word_of p t ≡ true → is_mark b t ≡ false
word_other_mark p b t e = false_from (is_mark b t) (not_mark p b t e)
  where
    false_from : (x : Bool) → not x ≡ true → x ≡ false
    false_from true h = absurd cc
    false_from false h = refl

word_no_integer_by : (p : List ℕ → Bool) (k : TokenKind) (text : List ℕ) → word_by p k text ≡ true → kind_is_integer k ≡ false
word_no_integer_by p kind.Word text e = refl
word_no_integer_by p kind.Integer text e = absurd cc
word_no_integer_by p kind.Punct text e = refl
word_no_integer_by p kind.GlobalName text e = refl
word_no_integer_by p kind.LocalName text e = refl
word_no_integer_by p kind.Label text e = refl
word_no_integer_by p kind.Text text e = refl

-- a word goes on with nothing that was passed over
pub word_after : (p : List ℕ → Bool) (t : TokenV) (rest : List TokenV) → word_of p t ≡ true → AfterPassed (t ∷ rest)
unfolding AfterPassed AfterWord next_is
word_after p t rest e = record { none = word_other_mark p 61 t e; fits = record { none = word_other_mark p 40 t e; fits = record { none = word_no_integer_by p t.kind t.text e; fits = tt } } }

-- and no mark but #, = and ( does
mark_no_integer_by : (b : ℕ) (k : TokenKind) (text : List ℕ) → punct_is (b ∷ []) k text ≡ true → kind_is_integer k ≡ false
mark_no_integer_by b kind.Punct text e = refl
mark_no_integer_by b kind.Word text e = refl
mark_no_integer_by b kind.GlobalName text e = refl
mark_no_integer_by b kind.LocalName text e = refl
mark_no_integer_by b kind.Label text e = refl
mark_no_integer_by b kind.Text text e = refl
mark_no_integer_by b kind.Integer text e = absurd cc

pub mark_after : (b : ℕ) (t : TokenV) (rest : List TokenV) → punct_is (61 ∷ []) kind.Punct (b ∷ []) ≡ false → punct_is (40 ∷ []) kind.Punct (b ∷ []) ≡ false → is_mark b t ≡ true → AfterPassed (t ∷ rest)
unfolding AfterPassed AfterWord next_is
mark_after b t rest equals bracket e = record { none = apart b 61 t equals e; fits = record { none = apart b 40 t bracket e; fits = record { none = mark_no_integer_by b t.kind t.text e; fits = tt } } }

stopped_by : (p : List ℕ → Bool) (stop : TokenV → Bool) (k : TokenKind) (t : TokenV) → (word_by p k t.text ≡ true → stop t ≡ true) → word_by p k t.text ≡ true → may_pass_by k stop t ≡ false
stopped_by p stop kind.Word t stops_there e = let s = stops_there e in rw s refl
stopped_by p stop kind.Punct t stops_there e = absurd cc
stopped_by p stop kind.GlobalName t stops_there e = absurd cc
stopped_by p stop kind.LocalName t stops_there e = absurd cc
stopped_by p stop kind.Label t stops_there e = absurd cc
stopped_by p stop kind.Integer t stops_there e = absurd cc
stopped_by p stop kind.Text t stops_there e = absurd cc

-- a word at which passing over stops
pub stopped : (p : List ℕ → Bool) (stop : TokenV → Bool) (t : TokenV) → (word_of p t ≡ true → stop t ≡ true) → word_of p t ≡ true → may_pass stop t ≡ false
unfolding may_pass
stopped p stop t stops_there e = stopped_by p stop t.kind t stops_there e

type_stops_by : (k : TokenKind) (text : List ℕ) → word_by is_type_word k text ≡ true → stops_at [] true text ≡ true
unfolding stops_at
type_stops_by kind.Word text e = or_right _ (true && is_type_word text) e
type_stops_by kind.Punct text e = absurd cc
type_stops_by kind.GlobalName text e = absurd cc
type_stops_by kind.LocalName text e = absurd cc
type_stops_by kind.Label text e = absurd cc
type_stops_by kind.Integer text e = absurd cc
type_stops_by kind.Text text e = absurd cc

pub type_stops : (t : TokenV) → word_of is_type_word t ≡ true → may_pass (stops [] true) t ≡ false
type_stops t e = stopped is_type_word (stops [] true) t (λ h. type_stops_by t.kind t.text h) e

answer_word : (to : Option Name) (t : TokenV) (of : TypeV) → answer_type to t ≡ Ok of → word_of is_type_word t ≡ true
answer_word (Some name) t of e = register_word t of e
answer_word None t of e = result_word t of e

behind_words : (to : Option Name) (of : TypeV) (others : List TokenV → Type 0) (ws rest : List TokenV) → Both (one_token (answer_type to) of) others ws → Behind (may_pass (stops [] true)) AfterPassed (ws ++ rest)
unfolding next_is
behind_words to of others ws rest s =
    let o = both_opens (word_of is_type_word) (one_token (answer_type to) of) others ws (λ us m. one_opens (word_of is_type_word) (answer_type to) of us (λ t e. answer_word to t of e) m) s in
    let is : ws ++ rest ≡ o.token ∷ (o.rest ++ rest) = ap (λ (u : List TokenV). u ++ rest) o.parts in
    subst (Behind (may_pass (stops [] true)) AfterPassed) (sym is) (record { none = type_stops o.token o.is; fits = word_after is_type_word o.token (o.rest ++ rest) o.is })

-- ---- a written function type

module _ (n : ℕ) where
  abbrev a_written : Spelling Bool
  a_written = Made (λ (u : Unit {0}). true) (λ u. a_mark 40 ▸ a_word (codes "ptr") ▸ a_mark 44 ▸ one_token points tt ▸ one_token (mark 41) u)

  written_laws : Lawful n anything written_at a_written
  written_laws = pass (token_laws n (mark 40)) (pass (token_laws n (word (codes "ptr"))) (pass (token_laws n (mark 44)) (pass (token_laws n points) (last (λ (u : Unit {0}). true) (token_laws n (mark 41))))))

  written_opens : (b : Bool) (ws : List TokenV) → a_written b ws → Opens (is_mark 40) ws
  written_opens b ws t = both_opens (is_mark 40) (a_mark 40) _ ws (λ us m. one_opens (is_mark 40) (mark 40) tt us (λ t e. the_mark 40 t tt e) m) t.spelled

  type_to : (b : Bool) (ws : List TokenV) → nothing false b ws ⊎ a_written b ws → a_function_type b ws
  type_to b ws (inl s) = subst (λ (x : Bool). a_function_type x ws) s.0 s.1
  type_to b ws (inr s) = subst (λ (x : Bool). a_function_type x ws) s.is s.spelled

  type_from : (b : Bool) (ws : List TokenV) → a_function_type b ws → nothing false b ws ⊎ a_written b ws
  type_from true ws s = inr (record { parts = tt; is = refl; spelled = s })
  type_from false ws s = inl (refl, s)

  abbrev no_bracket : Follow
  no_bracket = Behind (is_mark 40) anything

  variadic_laws : Lawful n no_bracket variadic_at a_function_type
  variadic_laws = respell n no_bracket variadic_at (λ b ws. nothing false b ws ⊎ a_written b ws) a_function_type type_to type_from
      (choice n (is_mark 40) anything no_bracket no_bracket written_at (gives false) a_written (nothing false) written_laws (nothing_laws n no_bracket false) written_opens (λ b ws rest s h. rw s.1 h.none) (λ rest h. tt) (λ rest h. h))

called_mark_by : (variadic : Bool) (k : TokenKind) (t : TokenV) (what : Callee Name) → called_by variadic k t ≡ Ok what → punct_is (40 ∷ []) k t.text ≡ false
called_mark_by variadic kind.GlobalName t what e = refl
called_mark_by variadic kind.LocalName t what e = refl
called_mark_by variadic kind.Label t what e = refl
called_mark_by variadic kind.Integer t what e = refl
called_mark_by variadic kind.Word t what e = refl
called_mark_by variadic kind.Text t what e = refl
called_mark_by true kind.Punct t what e = absurd cc
called_mark_by false kind.Punct t what e = absurd cc

behind_type_is : (variadic : Bool) (what : Callee Name) (others : List TokenV → Type 0) (ws rest : List TokenV) → Both (one_token (called variadic) what) others ws → Behind (is_mark 40) anything (ws ++ rest)
behind_type_is variadic what others ws rest s = record {
  none = unopened (is_mark 40) ws rest (both_opens (λ t. not (is_mark 40 t)) (one_token (called variadic) what) others ws (λ us m. one_opens (λ t. not (is_mark 40 t)) (called variadic) what us (λ t e. let none : is_mark 40 t ≡ false = called_mark_by variadic t.kind t what e in rw none refl) m) s);
  fits = tt;
}

-- ---- the end of a call

abbrev no_tokens : Spelling (Unit {0})
no_tokens = nothing tt

module _ (n : ℕ) where
  abbrev bundles : Spelling (Unit {0})
  bundles = one_token (λ t. Err (causes.OutOfProfile (codes "operand bundles")))

  no_bundles : (u : Unit {0}) (ws : List TokenV) → bundles u ws → ⊥
  no_bundles u ws s = let e = s.is in absurd cc

  unbundled_laws : Lawful n (Behind (is_mark 91) anything) unbundled (nothing tt)
  unbundled_laws =
      respell n (Behind (is_mark 91) anything) unbundled (λ u ws. nothing tt u ws ⊎ bundles u ws) (nothing tt) to (λ u ws s. inl s)
      (choice n (is_mark 91) anything (Behind (is_mark 91) anything) (Behind (is_mark 91) anything) (token_by (λ t. Err (causes.OutOfProfile (codes "operand bundles")))) (gives tt) bundles (nothing tt) (token_laws n (λ t. Err (causes.OutOfProfile (codes "operand bundles"))))
      (nothing_laws n (Behind (is_mark 91) anything) tt) (λ u ws s. absurd (no_bundles u ws s)) (λ u ws rest s h. rw s.1 h.none) (λ rest h. tt) (λ rest h. h))
    where
      to : (u : Unit {0}) (ws : List TokenV) → nothing tt u ws ⊎ bundles u ws → nothing tt u ws
      to u ws (inl s) = s
      to u ws (inr s) = absurd (no_bundles u ws s)

  module _ {A B : Type 0} (r : Reader A) (s : Spelling A) (f : A → B) (laws : Lawful n anything r s) where
    abbrev call_end : B → Reader B
    call_end b ts = words_at (stops opcodes false) ts >>= λ behind. unbundled behind.1 >>= λ none. Ok (b, none.1)

    abbrev end_spelled : B → Spelling B
    end_spelled b = InTurn (some_words (stops opcodes false)) (λ _. InTurn no_tokens (λ _. nothing b))

    flat : (b c : B) (ws : List TokenV) → InTurn no_tokens (λ _. nothing b) c ws → (b ≡ c) × (ws ≡ [])
    flat b c ws t = (t.rest_spells.0, t.parts ∙ ap (λ (u : List TokenV). u ++ t.rest) t.first_spells.1 ∙ t.rest_spells.1)

    end_laws : (b : B) → Lawful n BehindCall (call_end b) (end_spelled b)
    end_laws b =
        in_turn_before n (Behind (may_pass (stops opcodes false)) AfterPassed) BehindCall (words_at (stops opcodes false)) (λ _ ts. unbundled ts >>= λ none. Ok (b, none.1)) (some_words (stops opcodes false)) (λ _. InTurn no_tokens (λ _. nothing b)) (words_laws (stops opcodes false) n)
        (λ _. in_turn_before n (Behind (is_mark 91) anything) BehindCall unbundled (λ _ ts. Ok (b, ts)) no_tokens (λ _. nothing b) unbundled_laws (λ _. nothing_laws n BehindCall b) (λ u c ws rest t h. rw t.1 (record { none = h.none; fits = tt })))
        (λ u c ws rest t h. subst (Behind (may_pass (stops opcodes false)) AfterPassed) (sym (ap (λ (v : List TokenV). v ++ rest) (flat b c ws t).1)) h.fits)

    abbrev with_end : Spelling B
    with_end = Made f (λ a. Both (s a) (some_words (stops opcodes false) tt))

    end_to : (b : B) (ws : List TokenV) → InTurn s (λ a. end_spelled (f a)) b ws → with_end b ws
    end_to b ws t =
        let w = t.rest_spells in
        let last_is = flat (f t.value) b w.rest w.rest_spells in
        let whole : t.rest ≡ w.front = w.parts ∙ ap (λ (u : List TokenV). w.front ++ u) last_is.1 ∙ append-nil w.front in
        record {
          parts = t.value;
          is = last_is.0;
          spelled = record { front = t.front; rest = t.rest; parts = t.parts; first_spells = t.first_spells; rest_spells = subst (some_words (stops opcodes false) tt) (sym whole) (unit_words w.value w.front w.first_spells) };
        }
      where
        unit_words : (u : Unit {0}) (us : List TokenV) → some_words (stops opcodes false) u us → some_words (stops opcodes false) tt us
        unit_words u us h = h

    end_from : (b : B) (ws : List TokenV) → with_end b ws → InTurn s (λ a. end_spelled (f a)) b ws
    end_from b ws t =
        let p = t.spelled in
        record {
          value = t.parts;
          front = p.front;
          rest = p.rest;
          parts = p.parts;
          first_spells = p.first_spells;
          rest_spells = record {
            value = tt;
            front = p.rest;
            rest = [];
            parts = sym (append-nil p.rest);
            first_spells = p.rest_spells;
            rest_spells = record { value = tt; front = []; rest = []; parts = refl; first_spells = (refl, refl); rest_spells = (t.is, refl) };
          };
        }

    pub call_end_laws : Lawful n BehindCall (λ ts. r ts >>= λ x. call_end (f x.0) x.1) with_end
    call_end_laws = respell n BehindCall (λ ts. r ts >>= λ x. call_end (f x.0) x.1) (InTurn s (λ a. end_spelled (f a))) with_end end_to end_from
        (in_turn_before n anything BehindCall r (λ a. call_end (f a)) s (λ a. end_spelled (f a)) laws (λ a. end_laws (f a)) (λ a b ws rest t h. tt))

module _ (n : ℕ) (known : Known) where
  pub call_laws : (to : Option Name) → Lawful n BehindCall (call_at known to) (a_call_form known to)
  call_laws to =
      past (words_laws (stops [] true) n) (then (token_laws n (answer_type to)) (λ (of : TypeV). before (variadic_laws n) (λ (variadic : Bool). then (token_laws n (called variadic)) (λ (what : Callee Name).
      pass (token_laws n (mark 40)) (call_end_laws n (list_at 41 (argument_at known)) (closed_list 41 (an_argument known)) (λ (arguments : List Item). instruction.Call to of variadic what arguments) (arguments_laws n known))))
      (λ variadic p ws rest s h. behind_type_is variadic p.0 _ ws rest s)))
      (λ p ws rest s h. behind_words to p.0 _ ws rest s)
