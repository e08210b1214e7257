-- The first tokens of operands, and of what is passed over before them.
use Rattle.std.proofs.Common.{◌≡◌, ℕ, Bool, true, false, List, [], ◌∷◌, ◌++◌, Result, Ok, Err, refl, sym, ap, subst, ◌∙◌, inl, inr}
use Rattle.std.specs.Prelude.{codes, ◌||◌}
use Rattle.std.proofs.lemmas.Bool.{cases_Bool, or_left, or_right, or_cases, or_parts}
use Rattle.std.proofs.lemmas.List.{append-nil}
use lib.Pointwise.{bytes_decides}
use Rattle.ir_lex.specs.declared.token.TokenKind.{TokenKind}
use Rattle.ir_lex.specs.declared.token.TokenKind.TheVariants as kind
use Rattle.ir_lex.specs.declared.token.Cause.{Cause}
use Rattle.ir_lex.specs.declared.token.Cause.TheVariants as causes
use Rattle.ir_tree.specs.declared.instruction.Operand.TheVariants as operand
use Rattle.ir_tree.specs.Trees.{TypeV, ConstantV, IntegerC, NullC, ZeroC, TextC, ArrayC, StructC, NameC, AddressC}
use Rattle.ir_text.specs.Tokens.{TokenV, same, among, is_mark, word_is, punct_is}
use Rattle.ir_text.specs.Reading.{Outcome, ◌>>=◌, Meaning, meant, token_by, next_is}
use Rattle.ir_text.specs.Choice.{Opens}
use Rattle.ir_text.specs.Constants.{width_of, simple_constant, simple_by, word_constant}
use Rattle.ir_text.specs.Operands.{constant_at, a_constant, operand_at, an_operand, register, register_by, is_local, kind_is_local}
use Rattle.ir_text.specs.Passed.{is_integer, kind_is_integer, may_pass, may_pass_by, stops_at}
use Rattle.ir_text.specs.Spelled.{one_token}
use Rattle.ir_text.specs.Leaves.{mark, word}
use Rattle.ir_text.specs.NestedConstants.{constant_rule}
use Rattle.ir_text.specs.Repeated.{Both}
use Rattle.ir_text.specs.TypeSpelled.{a_mark, a_word}
use Rattle.ir_text.specs.Types.{Known}
use Rattle.ir_text.proofs.ChoiceLaws.{opens_more}
use Rattle.ir_text.proofs.ConstantFuel.{constant_is}
use Rattle.ir_text.proofs.Marks.{apart}
use Rattle.ir_instr.specs.Words.{constant_words}
use Rattle.ir_instr.specs.Calls.{begins_value}
use Rattle.instr_laws.specs.Forms.{Value}
use Rattle.instr_laws.proofs.Opening.{one_opens, both_opens, the_word, the_mark}

-- ---- what is passed over

passed_mark_by : (b : ℕ) (k : TokenKind) (stop : TokenV → Bool) (t : TokenV) → t.kind ≡ k → punct_is (b ∷ []) kind.Punct (35 ∷ []) ≡ false → may_pass_by k stop t ≡ true → punct_is (b ∷ []) k t.text ≡ false
passed_mark_by b kind.Punct stop t is other e =
    let sign : punct_is (35 ∷ []) kind.Punct t.text ≡ true = sym (ap (λ (k : TokenKind). punct_is (35 ∷ []) k t.text) is) ∙ e in
    let here : t.text ≡ 35 ∷ [] = (bytes_decides t.text (35 ∷ [])).0 sign in rw here other
passed_mark_by b kind.GlobalName stop t is other e = refl
passed_mark_by b kind.LocalName stop t is other e = refl
passed_mark_by b kind.Label stop t is other e = refl
passed_mark_by b kind.Integer stop t is other e = refl
passed_mark_by b kind.Word stop t is other e = refl
passed_mark_by b kind.Text stop t is other e = refl

-- nothing that is passed over begins with a mark but #
pub passed_mark : (b : ℕ) (stop : TokenV → Bool) (t : TokenV) → punct_is (b ∷ []) kind.Punct (35 ∷ []) ≡ false → may_pass stop t ≡ true → is_mark b t ≡ false
unfolding may_pass
passed_mark b stop t other e = passed_mark_by b t.kind stop t refl other e

passed_integer_by : (k : TokenKind) (stop : TokenV → Bool) (t : TokenV) → t.kind ≡ k → may_pass_by k stop t ≡ true → kind_is_integer k ≡ false
passed_integer_by kind.Integer stop t is e =
    let clash : is_mark 35 t ≡ false = ap (λ (j : TokenKind). punct_is (35 ∷ []) j t.text) is in
    let bad : true ≡ false = sym e ∙ clash in absurd cc
passed_integer_by kind.Punct stop t is e = refl
passed_integer_by kind.GlobalName stop t is e = refl
passed_integer_by kind.LocalName stop t is e = refl
passed_integer_by kind.Label stop t is e = refl
passed_integer_by kind.Word stop t is e = refl
passed_integer_by kind.Text stop t is e = refl

-- and nothing with a number
pub passed_integer : (stop : TokenV → Bool) (t : TokenV) → may_pass stop t ≡ true → is_integer t ≡ false
unfolding may_pass
passed_integer stop t e = passed_integer_by t.kind stop t refl e

-- ---- what begins an operand

value_mark : TokenV → Bool
value_mark t = is_mark 91 t || is_mark 123 t || is_mark 60 t

begins_by : TokenKind → TokenV → Bool
begins_by kind.Integer t = true
begins_by kind.GlobalName t = true
begins_by kind.LocalName t = true
begins_by kind.Word t = among constant_words t.text
begins_by kind.Punct t = value_mark t
begins_by _ t = false

pub begins_operand : TokenV → Bool
unfolding begins_by
begins_operand t = begins_by t.kind t

value_other : (b : ℕ) (t : TokenV) → punct_is (b ∷ []) kind.Punct (91 ∷ []) ≡ false → punct_is (b ∷ []) kind.Punct (123 ∷ []) ≡ false → punct_is (b ∷ []) kind.Punct (60 ∷ []) ≡ false → value_mark t ≡ true → is_mark b t ≡ false
unfolding value_mark
value_other b t square brace angle e =
    elim (or_cases _ (is_mark 60 t) e) [
      | inl h ↦ elim (or_cases (is_mark 91 t) (is_mark 123 t) h) [
        | inl g ↦ apart 91 b t square g
        | inr g ↦ apart 123 b t brace g
      ]
      | inr h ↦ apart 60 b t angle h
    ]

begins_mark_by : (b : ℕ) (k : TokenKind) (t : TokenV) → t.kind ≡ k → punct_is (b ∷ []) kind.Punct (91 ∷ []) ≡ false → punct_is (b ∷ []) kind.Punct (123 ∷ []) ≡ false → punct_is (b ∷ []) kind.Punct (60 ∷ []) ≡ false → begins_by k t ≡ true → punct_is (b ∷ []) k t.text ≡ false
unfolding begins_by
begins_mark_by b kind.Punct t is square brace angle e = sym (ap (λ (k : TokenKind). punct_is (b ∷ []) k t.text) is) ∙ value_other b t square brace angle e
begins_mark_by b kind.GlobalName t is square brace angle e = refl
begins_mark_by b kind.LocalName t is square brace angle e = refl
begins_mark_by b kind.Label t is square brace angle e = refl
begins_mark_by b kind.Integer t is square brace angle e = refl
begins_mark_by b kind.Word t is square brace angle e = refl
begins_mark_by b kind.Text t is square brace angle e = refl

-- no mark but a bracket begins an operand
pub operand_mark : (b : ℕ) (t : TokenV) → punct_is (b ∷ []) kind.Punct (91 ∷ []) ≡ false → punct_is (b ∷ []) kind.Punct (123 ∷ []) ≡ false → punct_is (b ∷ []) kind.Punct (60 ∷ []) ≡ false → begins_operand t ≡ true → is_mark b t ≡ false
unfolding begins_operand
operand_mark b t square brace angle e = begins_mark_by b t.kind t refl square brace angle e

not_passed_by : (k : TokenKind) (t : TokenV) → t.kind ≡ k → begins_by k t ≡ true → may_pass_by k begins_value t ≡ false
unfolding begins_by stops_at
not_passed_by kind.Word t is e = let stop : begins_value t ≡ true = or_left (among constant_words t.text) _ e in rw stop refl
not_passed_by kind.Punct t is e = value_other 35 t refl refl refl e
not_passed_by kind.Text t is e = absurd cc
not_passed_by kind.Label t is e = absurd cc
not_passed_by kind.Integer t is e = ap (λ (k : TokenKind). punct_is (35 ∷ []) k t.text) is
not_passed_by kind.GlobalName t is e = ap (λ (k : TokenKind). punct_is (35 ∷ []) k t.text) is
not_passed_by kind.LocalName t is e = ap (λ (k : TokenKind). punct_is (35 ∷ []) k t.text) is

-- no operand is passed over
pub operand_stays : (t : TokenV) → begins_operand t ≡ true → may_pass begins_value t ≡ false
unfolding may_pass begins_operand
operand_stays t e = not_passed_by t.kind t refl e

-- ---- operands

word_constant_begins : (text : List ℕ) (c : ConstantV) → word_constant text ≡ Ok c → among constant_words text ≡ true
unfolding word_constant among
word_constant_begins text c e =
    elim (cases_Bool (among constant_words text)) [
      | inl is ↦ is
      | inr none ↦
          let a = or_parts (same text (codes "true")) _ none in
          let b = or_parts (same text (codes "false")) _ a.1 in
          let d = or_parts (same text (codes "null")) _ b.1 in
          let z = or_parts (same text (codes "zeroinitializer")) _ d.1 in
          let clash : bad ≡ Ok c = rw (a.0, b.0, d.0, z.0) at e in absurd cc
    ]
  where
    bad : Result ConstantV Cause
    bad = Err causes.Operand

constant_begins_by : (w : ℕ) (k : TokenKind) (t : TokenV) (c : ConstantV) → simple_by w k t ≡ Ok c → begins_by k t ≡ true
unfolding begins_by
constant_begins_by w kind.Integer t c e = refl
constant_begins_by w kind.GlobalName t c e = refl
constant_begins_by w kind.Word t c e = word_constant_begins t.text c e
constant_begins_by w kind.LocalName t c e = absurd cc
constant_begins_by w kind.Label t c e = absurd cc
constant_begins_by w kind.Text t c e = absurd cc
constant_begins_by w kind.Punct t c e = absurd cc

simple_begins : (w : ℕ) (c : ConstantV) (ws : List TokenV) → one_token (simple_constant w) c ws → Opens begins_operand ws
unfolding begins_operand
simple_begins w c ws s = one_opens begins_operand (simple_constant w) c ws (λ t e. constant_begins_by w t.kind t c e) s

word_begins_by : (w : List ℕ) (k : TokenKind) (t : TokenV) → among constant_words w ≡ true → word_is w k t.text ≡ true → begins_by k t ≡ true
unfolding begins_by
word_begins_by w kind.Word t first e = let here : t.text ≡ w = (bytes_decides t.text w).0 e in ap (among constant_words) here ∙ first
word_begins_by w kind.Punct t first e = absurd cc
word_begins_by w kind.GlobalName t first e = refl
word_begins_by w kind.LocalName t first e = refl
word_begins_by w kind.Label t first e = absurd cc
word_begins_by w kind.Integer t first e = refl
word_begins_by w kind.Text t first e = absurd cc

word_begins : (w : List ℕ) (others : List TokenV → Type 0) (ws : List TokenV) → among constant_words w ≡ true → Both (a_word w) others ws → Opens begins_operand ws
unfolding begins_operand
word_begins w others ws first s = both_opens begins_operand (a_word w) others ws (λ us m. one_opens begins_operand (word w) tt us (λ t e. word_begins_by w t.kind t first (the_word w t tt e)) m) s

mark_begins_by : (b : ℕ) (k : TokenKind) (t : TokenV) → (is_mark b t ≡ true → value_mark t ≡ true) → t.kind ≡ k → punct_is (b ∷ []) k t.text ≡ true → begins_by k t ≡ true
unfolding begins_by
mark_begins_by b kind.Punct t value is e = value (ap (λ (j : TokenKind). punct_is (b ∷ []) j t.text) is ∙ e)
mark_begins_by b kind.Word t value is e = absurd cc
mark_begins_by b kind.GlobalName t value is e = refl
mark_begins_by b kind.LocalName t value is e = refl
mark_begins_by b kind.Label t value is e = absurd cc
mark_begins_by b kind.Integer t value is e = refl
mark_begins_by b kind.Text t value is e = absurd cc

mark_begins : (b : ℕ) (others : List TokenV → Type 0) (ws : List TokenV) → ((t : TokenV) → is_mark b t ≡ true → value_mark t ≡ true) → Both (a_mark b) others ws → Opens begins_operand ws
unfolding begins_operand
mark_begins b others ws value s = both_opens begins_operand (a_mark b) others ws (λ us m. one_opens begins_operand (mark b) tt us (λ t e. mark_begins_by b t.kind t (value t) refl (the_mark b t tt e)) m) s

square : (t : TokenV) → is_mark 91 t ≡ true → value_mark t ≡ true
unfolding value_mark
square t e = or_left _ (is_mark 60 t) (or_left (is_mark 91 t) (is_mark 123 t) e)

brace : (t : TokenV) → is_mark 123 t ≡ true → value_mark t ≡ true
unfolding value_mark
brace t e = or_left _ (is_mark 60 t) (or_right (is_mark 91 t) (is_mark 123 t) e)

angle : (t : TokenV) → is_mark 60 t ≡ true → value_mark t ≡ true
unfolding value_mark
angle t e = or_right (is_mark 91 t || is_mark 123 t) (is_mark 60 t) e

pub constant_begins : (known : Known) (w : ℕ) (c : ConstantV) (ws : List TokenV) → a_constant known w c ws → Opens begins_operand ws
unfolding among
constant_begins known w (IntegerC n) ws s = simple_begins w (IntegerC n) ws s
constant_begins known w NullC ws s = simple_begins w NullC ws s
constant_begins known w ZeroC ws s = simple_begins w ZeroC ws s
constant_begins known w (NameC name) ws s = simple_begins w (NameC name) ws s
constant_begins known w (TextC bytes) ws s = word_begins (codes "c") _ ws refl s
constant_begins known w (ArrayC elements) ws s = mark_begins 91 _ ws square s
constant_begins known w (StructC false fields) ws s = mark_begins 123 _ ws brace s
constant_begins known w (StructC true fields) ws s = mark_begins 60 _ ws angle s
constant_begins known w (AddressC of base indices) ws s = word_begins (codes "getelementptr") _ ws refl s

register_begins_by : (k : TokenKind) (t : TokenV) (o : Value) → register_by k t ≡ Ok o → begins_by k t ≡ true
unfolding begins_by
register_begins_by kind.LocalName t o e = refl
register_begins_by kind.GlobalName t o e = absurd cc
register_begins_by kind.Label t o e = absurd cc
register_begins_by kind.Integer t o e = absurd cc
register_begins_by kind.Word t o e = absurd cc
register_begins_by kind.Text t o e = absurd cc
register_begins_by kind.Punct t o e = absurd cc

pub operand_begins : (known : Known) (of : TypeV) (o : Value) (ws : List TokenV) → an_operand known of o ws → Opens begins_operand ws
unfolding begins_operand
operand_begins known of o ws (inl s) = opens_more begins_operand _ _ (constant_begins known (width_of of)) o ws s
operand_begins known of o ws (inr s) = one_opens begins_operand register o ws (λ t e. register_begins_by t.kind t o e) s

-- ---- numbers

pub with_constant : Result ConstantV Cause → Result Value Cause
with_constant (Ok c) = Ok (operand.Constant c)
with_constant (Err cause) = Err cause

-- what a number stands for
pub numbered : TypeV → Meaning Value
unfolding with_constant
numbered of t = with_constant (simple_constant (width_of of) t)

integer_kind : (k : TokenKind) → kind_is_integer k ≡ true → k ≡ kind.Integer
integer_kind kind.Integer e = refl
integer_kind kind.LocalName e = absurd cc
integer_kind kind.GlobalName e = absurd cc
integer_kind kind.Label e = absurd cc
integer_kind kind.Word e = absurd cc
integer_kind kind.Text e = absurd cc
integer_kind kind.Punct e = absurd cc

-- a token of digits
number_token : List ℕ → ℕ → TokenV
number_token text line = record { kind = kind.Integer; text = text; line = line }

number_is : (t : TokenV) → is_integer t ≡ true → t ≡ number_token t.text t.line
unfolding number_token
number_is t e = ap (λ (k : TokenKind). record { kind = k; text = t.text; line = t.line }) (integer_kind t.kind e)

meant_constant : (m : Result ConstantV Cause) (t : TokenV) (rest : List TokenV) → (meant m t rest >>= λ c. Ok (operand.Constant c.0, c.1)) ≡ meant (with_constant m) t rest
unfolding with_constant
meant_constant (Ok c) t rest = refl
meant_constant (Err cause) t rest = refl

token_read : (known : Known) (of : TypeV) (text : List ℕ) (line : ℕ) (rest : List TokenV) → operand_at known of (number_token text line ∷ rest) ≡ meant (numbered of (number_token text line)) (number_token text line) rest
unfolding next_is constant_rule numbered number_token
token_read known of text line rest =
    let t : TokenV = number_token text line in
    ap (λ (o : Outcome ConstantV). o >>= λ c. Ok (operand.Constant c.0, c.1)) (constant_is known (width_of of) t rest) ∙ meant_constant (simple_constant (width_of of) t) t rest

-- a number is an operand of one token, whatever stands behind it
pub number_read : (known : Known) (of : TypeV) (t : TokenV) (rest : List TokenV) → is_integer t ≡ true → operand_at known of (t ∷ rest) ≡ meant (numbered of t) t rest
number_read known of t rest e = subst (λ (u : TokenV). operand_at known of (u ∷ rest) ≡ meant (numbered of u) u rest) (sym (number_is t e)) (token_read known of t.text t.line rest)

one_alone : {A : Type 0} (means : Meaning A) (a : A) (t : TokenV) (ws : List TokenV) → one_token means a (t ∷ ws) → ws ≡ []
one_alone means a t ws s = let e : t ∷ ws ≡ s.token ∷ [] = s.parts in cc

no_word_by : (w : List ℕ) (k : TokenKind) (text : List ℕ) → kind_is_integer k ≡ true → word_is w k text ≡ true → ⊥
no_word_by w kind.Integer text e h = cc
no_word_by w kind.LocalName text e h = cc
no_word_by w kind.GlobalName text e h = cc
no_word_by w kind.Label text e h = cc
no_word_by w kind.Word text e h = cc
no_word_by w kind.Text text e h = cc
no_word_by w kind.Punct text e h = cc

no_mark_by : (b : ℕ) (k : TokenKind) (text : List ℕ) → kind_is_integer k ≡ true → punct_is (b ∷ []) k text ≡ true → ⊥
no_mark_by b kind.Integer text e h = cc
no_mark_by b kind.LocalName text e h = cc
no_mark_by b kind.GlobalName text e h = cc
no_mark_by b kind.Label text e h = cc
no_mark_by b kind.Word text e h = cc
no_mark_by b kind.Text text e h = cc
no_mark_by b kind.Punct text e h = cc

-- no number is a word or a mark
no_word : (w : List ℕ) (others : List TokenV → Type 0) (t : TokenV) (ws : List TokenV) → is_integer t ≡ true → Both (a_word w) others (t ∷ ws) → ⊥
no_word w others t ws e s =
    let a = s.first_spells in
    let whole : t ∷ ws ≡ a.token ∷ s.rest = s.parts ∙ ap (λ (u : List TokenV). u ++ s.rest) a.parts in
    let first : t ≡ a.token = cc in
    no_word_by w a.token.kind a.token.text (ap is_integer (sym first) ∙ e) (the_word w a.token tt a.is)

no_mark : (b : ℕ) (others : List TokenV → Type 0) (t : TokenV) (ws : List TokenV) → is_integer t ≡ true → Both (a_mark b) others (t ∷ ws) → ⊥
no_mark b others t ws e s =
    let a = s.first_spells in
    let whole : t ∷ ws ≡ a.token ∷ s.rest = s.parts ∙ ap (λ (u : List TokenV). u ++ s.rest) a.parts in
    let first : t ≡ a.token = cc in
    no_mark_by b a.token.kind a.token.text (ap is_integer (sym first) ∙ e) (the_mark b a.token tt a.is)

constant_alone : (known : Known) (w : ℕ) (c : ConstantV) (t : TokenV) (ws : List TokenV) → is_integer t ≡ true → a_constant known w c (t ∷ ws) → ws ≡ []
constant_alone known w (IntegerC n) t ws e s = one_alone (simple_constant w) (IntegerC n) t ws s
constant_alone known w NullC t ws e s = one_alone (simple_constant w) NullC t ws s
constant_alone known w ZeroC t ws e s = one_alone (simple_constant w) ZeroC t ws s
constant_alone known w (NameC name) t ws e s = one_alone (simple_constant w) (NameC name) t ws s
constant_alone known w (TextC bytes) t ws e s = absurd (no_word (codes "c") _ t ws e s)
constant_alone known w (ArrayC elements) t ws e s = absurd (no_mark 91 _ t ws e s)
constant_alone known w (StructC false fields) t ws e s = absurd (no_mark 123 _ t ws e s)
constant_alone known w (StructC true fields) t ws e s = absurd (no_mark 60 _ t ws e s)
constant_alone known w (AddressC of base indices) t ws e s = absurd (no_word (codes "getelementptr") _ t ws e s)

pub number_alone : (known : Known) (of : TypeV) (o : Value) (t : TokenV) (ws : List TokenV) → is_integer t ≡ true → an_operand known of o (t ∷ ws) → ws ≡ []
number_alone known of o t ws e (inl s) =
    let whole : t ∷ ws ≡ s.front = s.parts ∙ ap (λ (u : List TokenV). s.front ++ u) s.rest_spells.1 ∙ append-nil s.front in
    constant_alone known (width_of of) s.value t ws e (subst (a_constant known (width_of of) s.value) (sym whole) s.first_spells)
number_alone known of o t ws e (inr s) = one_alone register o t ws s
