-- The items that are passed over whole.
use Rattle.std.specs.Prelude.{ℕ, zero, suc, length, Bool, true, false, ◌&&◌, ◌||◌, if◌then◌else◌, [], ◌∷◌, Result, Ok, Err, codes}
use Rattle.ir_lex.specs.declared.token.TokenKind.{TokenKind}
use Rattle.ir_lex.specs.declared.token.TokenKind.TheVariants as kind
use Rattle.ir_lex.specs.declared.token.Cause.{Cause}
use Rattle.ir_lex.specs.declared.token.Cause.TheVariants as causes
use Rattle.ir_text.specs.declared.fault.Fault.TheVariants.{Ended}
use Rattle.ir_text.specs.Tokens.{is_mark}
use Rattle.ir_text.specs.Reading.{Reader, ◌>>=◌, Meaning, token_by}
use Rattle.ir_text.specs.Choice.{choose}
use Rattle.ir_text.specs.Leaves.{tested, mark_at, word_at}
use Rattle.ir_text.specs.Passed.{is_string, is_opening, is_any_word, is_integer, some_integer, some_word, group_from}

-- all tokens up to the next string, and the string
unfoldable pub to_string : Reader (Unit {0})
to_string [] = Err Ended
to_string (t ∷ rest) = if is_string t then Ok (tt, rest) else to_string rest

-- all tokens up to the next bracket that opens, and the group that it opens
unfoldable pub to_group : Reader (Unit {0})
to_group [] = Err Ended
to_group (t ∷ rest) = if is_opening t then group_from 1 rest else to_group rest

-- = and a group
abbrev pub equals_group : Reader (Unit {0})
equals_group ts = mark_at 61 ts >>= λ equals. to_group equals.1

-- #N = { .. }, behind `attributes`
abbrev pub attributes_at : Reader (Unit {0})
attributes_at ts = do
  sign ← mark_at 35 ts
  number ← token_by some_integer sign.1
  equals_group number.1

abbrev pub word_or_number_by : TokenKind → Result Bool Cause
word_or_number_by kind.Word = Ok true
word_or_number_by kind.Integer = Ok false
word_or_number_by _ = Err causes.Operand

-- what metadata is called: whether it is a word, and no number
abbrev pub word_or_number : Meaning Bool
word_or_number t = word_or_number_by t.kind

-- !name = .., !N = ..
abbrev pub metadata_at : Reader (Unit {0})
metadata_at ts = do
  sign ← mark_at 33 ts
  name ← token_by word_or_number sign.1
  equals_group name.1

abbrev pub comdat_name : Meaning (Unit {0})
comdat_name t = tested (is_any_word t || is_string t || is_integer t) causes.Operand

-- $name = comdat WORD
abbrev pub comdat_at : Reader (Unit {0})
comdat_at ts = do
  sign ← mark_at 36 ts
  name ← token_by comdat_name sign.1
  equals ← mark_at 61 name.1
  comdat ← word_at (codes "comdat") equals.1
  token_by some_word comdat.1

-- ---- behind a declaration

-- !N, and more may follow
abbrev pub note_end : Reader Bool
note_end ts = mark_at 33 ts >>= λ sign. token_by some_integer sign.1 >>= λ number. Ok (true, number.1)

-- the rest of an item, behind which the declaration is over
abbrev pub item_end : Reader Bool
item_end ts = equals_group ts >>= λ item. Ok (false, item.1)

-- behind `!` and a word or a number: the rest of !word !N, or of an item
abbrev pub attached_end : Bool → Reader Bool
attached_end true = choose (is_mark 33) note_end item_end
attached_end false = item_end

abbrev pub attached_one : Reader Bool
attached_one ts = do
  sign ← mark_at 33 ts
  name ← token_by word_or_number sign.1
  attached_end name.0 name.1

-- At most so many of !word !N. Where `!` begins an item, that is passed over too.
unfoldable pub attached_to : ℕ → Reader (Unit {0})
attached_to zero ts = Ok (tt, ts)
attached_to (suc n) ts = choose (is_mark 33) (λ us. attached_one us >>= λ more. if more.0 then attached_to n more.1 else Ok (tt, more.1)) (λ us. Ok (tt, us)) ts

-- each takes a token, so there are no more than tokens
abbrev pub attached_at : Reader (Unit {0})
attached_at ts = attached_to (length ts) ts
