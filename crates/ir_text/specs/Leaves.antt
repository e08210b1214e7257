-- What single tokens stand for.
use Rattle.std.specs.Prelude.{ℕ, Bool, true, false, List, Result, Ok, Err}
use Rattle.ir_lex.specs.declared.token.TokenKind.{TokenKind}
use Rattle.ir_lex.specs.declared.token.TokenKind.TheVariants as kind
use Rattle.ir_lex.specs.declared.token.Cause.{Cause}
use Rattle.ir_lex.specs.declared.token.Cause.TheVariants as causes
use Rattle.ir_lex.specs.Spelling.{name_of, name_part, decoded, unquoted}
use Rattle.pv_base.specs.declared.name.Name.{Name}
use Rattle.ir_text.specs.Tokens.{TokenV, is_mark, is_word}
use Rattle.ir_text.specs.Reading.{Reader, Meaning, token_by}

-- a token that passes a test
abbrev pub tested : Bool → Cause → Result (Unit {0}) Cause
tested true cause = Ok tt
tested false cause = Err cause

-- a mark of one byte
abbrev pub mark : ℕ → Meaning (Unit {0})
mark b t = tested (is_mark b t) causes.Operand

abbrev pub mark_at : ℕ → Reader (Unit {0})
mark_at b = token_by (mark b)

-- a word
abbrev pub word : List ℕ → Meaning (Unit {0})
word w t = tested (is_word w t) causes.Operand

abbrev pub word_at : List ℕ → Reader (Unit {0})
word_at w = token_by (word w)

-- the name that a name's token spells
abbrev pub spelled_name : TokenV → Name
spelled_name t = name_of (name_part t.kind t.text)

abbrev pub local_by : TokenKind → TokenV → Result Name Cause
local_by kind.LocalName t = Ok (spelled_name t)
local_by _ t = Err causes.Name

-- %name
abbrev pub local : Meaning Name
local t = local_by t.kind t

abbrev pub local_at : Reader Name
local_at = token_by local

abbrev pub global_by : TokenKind → TokenV → Result Name Cause
global_by kind.GlobalName t = Ok (spelled_name t)
global_by _ t = Err causes.Name

-- @name
abbrev pub global : Meaning Name
global t = global_by t.kind t

abbrev pub global_at : Reader Name
global_at = token_by global

abbrev pub label_by : TokenKind → TokenV → Result Name Cause
label_by kind.Label t = Ok (spelled_name t)
label_by _ t = Err causes.Name

-- name:
abbrev pub label : Meaning Name
label t = label_by t.kind t

abbrev pub label_at : Reader Name
label_at = token_by label

abbrev pub text_by : TokenKind → TokenV → Result (List ℕ) Cause
text_by kind.Text t = Ok (decoded (unquoted t.text))
text_by _ t = Err causes.Operand

-- a string, by the bytes that it stands for
abbrev pub string : Meaning (List ℕ)
string t = text_by t.kind t

abbrev pub string_at : Reader (List ℕ)
string_at = token_by string
