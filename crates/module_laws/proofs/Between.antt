-- Tokens at which words end.
use Rattle.std.proofs.Common.{◌≡◌, ℕ, Bool, true, false, List, [], ◌∷◌, ◌++◌, refl, sym, ap, subst, ◌∙◌, inl, inr}
use Rattle.std.proofs.lemmas.Bool.{cases_Bool, or_cases, or_left}
use lib.Pointwise.{bytes_decides}
use Rattle.ir_lex.specs.declared.token.TokenKind.{TokenKind}
use Rattle.ir_lex.specs.declared.token.TokenKind.TheVariants as kind
use Rattle.ir_text.specs.Tokens.{TokenV, same, among, is_mark, is_word, word_is, punct_is}
use Rattle.ir_text.specs.Reading.{next_is}
use Rattle.ir_text.specs.Choice.{Opens}
use Rattle.ir_text.specs.Lawful.{Follow}
use Rattle.ir_text.specs.Operands.{is_local, kind_is_local}
use Rattle.ir_text.specs.Passed.{AfterPassed, AfterWord, may_pass, may_pass_by, kind_is_integer, is_type_word, stops, stops_at}
use Rattle.ir_grammar.specs.Bodies.{is_label, kind_is_label}
use Rattle.ir_grammar.specs.Items.{is_global, kind_is_global}
use Rattle.instr_laws.specs.Behind.{ends_argument}
use Rattle.module_laws.specs.Behind.{Between}
use Rattle.instr_laws.proofs.Opening.{word_of, word_by}
use Rattle.instr_laws.proofs.Values.{passed_mark}
use Rattle.instr_laws.proofs.CallLaws.{type_stops, stopped, word_after, mark_after}

-- what holds where a token stands first
pub opens_follow : (test : TokenV → Bool) (follow : Follow) (ws rest : List TokenV) → ((t : TokenV) (us : List TokenV) → test t ≡ true → follow (t ∷ us)) → Opens test ws → follow (ws ++ rest)
opens_follow test follow ws rest holds o =
    let is : ws ++ rest ≡ o.token ∷ (o.rest ++ rest) = ap (λ (u : List TokenV). u ++ rest) o.parts in
    subst follow (sym is) (holds o.token (o.rest ++ rest) o.is)

pub next_follow : (test : TokenV → Bool) (follow : Follow) (rest : List TokenV) → ((t : TokenV) (us : List TokenV) → test t ≡ true → follow (t ∷ us)) → next_is test rest ≡ true → follow rest
unfolding next_is
next_follow test follow [] holds e = absurd cc
next_follow test follow (t ∷ us) holds e = holds t us e

-- ---- marks

mark_stops : (b : ℕ) (stop : TokenV → Bool) (t : TokenV) → punct_is (b ∷ []) kind.Punct (35 ∷ []) ≡ false → is_mark b t ≡ true → may_pass stop t ≡ false
mark_stops b stop t other e =
    elim (cases_Bool (may_pass stop t)) [
      | inl passes ↦ let clash : true ≡ false = sym e ∙ passed_mark b stop t other passes in absurd cc
      | inr stays ↦ stays
    ]

pub mark_between : (b : ℕ) (stop : TokenV → Bool) → punct_is (b ∷ []) kind.Punct (35 ∷ []) ≡ false → punct_is (61 ∷ []) kind.Punct (b ∷ []) ≡ false → punct_is (40 ∷ []) kind.Punct (b ∷ []) ≡ false
    → (t : TokenV) (rest : List TokenV) → is_mark b t ≡ true → Between stop (t ∷ rest)
unfolding next_is
mark_between b stop sign equals bracket t rest e = record { none = mark_stops b stop t sign e; fits = mark_after b t rest equals bracket e }

pub ends_between : (stop : TokenV → Bool) (t : TokenV) (rest : List TokenV) → ends_argument t ≡ true → Between stop (t ∷ rest)
ends_between stop t rest e =
    elim (or_cases (is_mark 44 t) (is_mark 41 t) e) [
      | inl comma ↦ mark_between 44 stop refl refl refl t rest comma
      | inr close ↦ mark_between 41 stop refl refl refl t rest close
    ]

-- ---- words

pub word_between : (p : List ℕ → Bool) (stop : TokenV → Bool) (t : TokenV) (rest : List TokenV) → (word_of p t ≡ true → stop t ≡ true) → word_of p t ≡ true → Between stop (t ∷ rest)
unfolding next_is
word_between p stop t rest stops_there e = record { none = stopped p stop t stops_there e; fits = word_after p t rest e }

word_mark_by : (w : List ℕ) (b : ℕ) (k : TokenKind) (text : List ℕ) → word_is w k text ≡ true → punct_is (b ∷ []) k text ≡ false
word_mark_by w b kind.Word text e = refl
word_mark_by w b kind.Punct text e = absurd cc
word_mark_by w b kind.LocalName text e = absurd cc
word_mark_by w b kind.GlobalName text e = absurd cc
word_mark_by w b kind.Label text e = absurd cc
word_mark_by w b kind.Integer text e = absurd cc
word_mark_by w b kind.Text text e = absurd cc

-- no word is a mark
pub word_mark : (w : List ℕ) (b : ℕ) (t : TokenV) → is_word w t ≡ true → is_mark b t ≡ false
word_mark w b t e = word_mark_by w b t.kind t.text e

that_word_by : (w : List ℕ) (k : TokenKind) (text : List ℕ) → word_is w k text ≡ true → word_by (λ x. same x w) k text ≡ true
that_word_by w kind.Word text e = e
that_word_by w kind.Punct text e = absurd cc
that_word_by w kind.LocalName text e = absurd cc
that_word_by w kind.GlobalName text e = absurd cc
that_word_by w kind.Label text e = absurd cc
that_word_by w kind.Integer text e = absurd cc
that_word_by w kind.Text text e = absurd cc

that_stops_by : (words : List (List ℕ)) (w : List ℕ) (k : TokenKind) (text : List ℕ) → among words w ≡ true → word_is w k text ≡ true → stops_at words false text ≡ true
unfolding stops_at
that_stops_by words w kind.Word text is e = let here : text ≡ w = (bytes_decides text w).0 e in or_left (among words text) _ (ap (among words) here ∙ is)
that_stops_by words w kind.Punct text is e = absurd cc
that_stops_by words w kind.LocalName text is e = absurd cc
that_stops_by words w kind.GlobalName text is e = absurd cc
that_stops_by words w kind.Label text is e = absurd cc
that_stops_by words w kind.Integer text is e = absurd cc
that_stops_by words w kind.Text text is e = absurd cc

-- a word at which passing over stops
pub that_word_between : (words : List (List ℕ)) (w : List ℕ) → among words w ≡ true → (t : TokenV) (rest : List TokenV) → is_word w t ≡ true → Between (stops words false) (t ∷ rest)
that_word_between words w is t rest e = word_between (λ x. same x w) (stops words false) t rest (λ h. that_stops_by words w t.kind t.text is e) (that_word_by w t.kind t.text e)

pub type_between : (t : TokenV) (rest : List TokenV) → word_of is_type_word t ≡ true → Between (stops [] true) (t ∷ rest)
unfolding next_is
type_between t rest e = record { none = type_stops t e; fits = word_after is_type_word t rest e }

-- ---- names and labels

abbrev pub kind_is_name : TokenKind → Bool
kind_is_name kind.LocalName = true
kind_is_name kind.GlobalName = true
kind_is_name kind.Label = true
kind_is_name _ = false

-- %name, @name or name:
abbrev pub is_name : TokenV → Bool
is_name t = kind_is_name t.kind

name_mark_by : (b : ℕ) (k : TokenKind) (text : List ℕ) → kind_is_name k ≡ true → punct_is (b ∷ []) k text ≡ false
name_mark_by b kind.LocalName text e = refl
name_mark_by b kind.GlobalName text e = refl
name_mark_by b kind.Label text e = refl
name_mark_by b kind.Word text e = refl
name_mark_by b kind.Integer text e = refl
name_mark_by b kind.Text text e = refl
name_mark_by b kind.Punct text e = absurd cc

pub name_mark : (b : ℕ) (t : TokenV) → is_name t ≡ true → is_mark b t ≡ false
name_mark b t e = name_mark_by b t.kind t.text e

name_integer_by : (k : TokenKind) → kind_is_name k ≡ true → kind_is_integer k ≡ false
name_integer_by kind.Integer e = absurd cc
name_integer_by kind.LocalName e = refl
name_integer_by kind.GlobalName e = refl
name_integer_by kind.Label e = refl
name_integer_by kind.Word e = refl
name_integer_by kind.Text e = refl
name_integer_by kind.Punct e = refl

name_stops_by : (k : TokenKind) (stop : TokenV → Bool) (t : TokenV) → is_mark 35 t ≡ false → kind_is_name k ≡ true → may_pass_by k stop t ≡ false
name_stops_by kind.LocalName stop t other e = other
name_stops_by kind.GlobalName stop t other e = other
name_stops_by kind.Label stop t other e = other
name_stops_by kind.Integer stop t other e = absurd cc
name_stops_by kind.Word stop t other e = absurd cc
name_stops_by kind.Text stop t other e = absurd cc
name_stops_by kind.Punct stop t other e = absurd cc

name_stops : (stop : TokenV → Bool) (t : TokenV) → is_name t ≡ true → may_pass stop t ≡ false
unfolding may_pass
name_stops stop t e = name_stops_by t.kind stop t (name_mark 35 t e) e

pub name_between : (stop : TokenV → Bool) (t : TokenV) (rest : List TokenV) → is_name t ≡ true → Between stop (t ∷ rest)
unfolding next_is AfterPassed AfterWord
name_between stop t rest e = record { none = name_stops stop t e; fits = record { none = name_mark 61 t e; fits = record { none = name_mark 40 t e; fits = record { none = name_integer_by t.kind e; fits = tt } } } }

local_name_by : (k : TokenKind) → kind_is_local k ≡ true → kind_is_name k ≡ true
local_name_by kind.LocalName e = refl
local_name_by kind.GlobalName e = refl
local_name_by kind.Label e = refl
local_name_by kind.Integer e = absurd cc
local_name_by kind.Word e = absurd cc
local_name_by kind.Text e = absurd cc
local_name_by kind.Punct e = absurd cc

pub local_name : (t : TokenV) → is_local t ≡ true → is_name t ≡ true
local_name t e = local_name_by t.kind e

label_name_by : (k : TokenKind) → kind_is_label k ≡ true → kind_is_name k ≡ true
label_name_by kind.Label e = refl
label_name_by kind.LocalName e = refl
label_name_by kind.GlobalName e = refl
label_name_by kind.Integer e = absurd cc
label_name_by kind.Word e = absurd cc
label_name_by kind.Text e = absurd cc
label_name_by kind.Punct e = absurd cc

pub label_name : (t : TokenV) → is_label t ≡ true → is_name t ≡ true
label_name t e = label_name_by t.kind e

global_name_by : (k : TokenKind) → kind_is_global k ≡ true → kind_is_name k ≡ true
global_name_by kind.GlobalName e = refl
global_name_by kind.LocalName e = refl
global_name_by kind.Label e = refl
global_name_by kind.Integer e = absurd cc
global_name_by kind.Word e = absurd cc
global_name_by kind.Text e = absurd cc
global_name_by kind.Punct e = absurd cc

pub global_name : (t : TokenV) → is_global t ≡ true → is_name t ≡ true
global_name t e = global_name_by t.kind e
