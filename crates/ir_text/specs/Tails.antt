-- What may stand behind an instruction or a global, and is passed over.
use Rattle.std.specs.Prelude.{if◌then◌else◌, [], ◌∷◌, Ok, Err, codes}
use Rattle.ir_lex.specs.declared.token.Cause.TheVariants as causes
use Rattle.ir_text.specs.declared.fault.Fault.TheVariants.{Ended}
use Rattle.ir_text.specs.Tokens.{TokenV, is_mark, is_word}
use Rattle.ir_text.specs.Reading.{Reader, ◌>>=◌, token_by, wrong}
use Rattle.ir_text.specs.Spelled.{Spelling, InTurn, Led, one_token, nothing, by_test, when}
use Rattle.ir_text.specs.Leaves.{mark, mark_at}
use Rattle.ir_text.specs.Passed.{skipped, skips, some_integer, some_string, some_word}
use Rattle.ir_text.specs.Lists.{after_comma, with_comma}

-- word !N, behind !
abbrev pub note_behind : Reader (Unit {0})
note_behind ts = do
  word ← token_by some_word ts
  sign ← mark_at 33 word.1
  token_by some_integer sign.1

-- !word !N
abbrev pub note_at : Reader (Unit {0})
note_at ts = mark_at 33 ts >>= λ sign. note_behind sign.1

-- any number of them
abbrev pub notes_at : Reader (Unit {0})
notes_at = skipped (is_mark 33) note_at

-- align N, section "..", comdat, !word !N
unfoldable pub tail_at : Reader (Unit {0})
tail_at [] = Err Ended
tail_at (t ∷ rest) =
    if is_word (codes "align") t then token_by some_integer rest
    else (if is_word (codes "section") t then token_by some_string rest
    else (if is_word (codes "comdat") t then Ok (tt, rest)
    else (if is_mark 33 t then note_behind rest else wrong t causes.Operand)))

-- any number of them, each behind a comma
abbrev pub tails_at : Reader (Unit {0})
tails_at = skipped (is_mark 44) (after_comma tail_at)

-- ---- how they are spelled

abbrev pub behind_sign : Spelling (Unit {0})
behind_sign = InTurn (one_token some_word) (λ _. InTurn (one_token (mark 33)) (λ _. one_token some_integer))

abbrev pub a_note : Spelling (Unit {0})
a_note = InTurn (one_token (mark 33)) (λ _. behind_sign)

abbrev pub some_notes : Spelling (Unit {0})
some_notes = skips a_note

abbrev pub tail_led : TokenV → Spelling (Unit {0})
tail_led t =
    by_test (is_word (codes "align") t) (one_token some_integer)
    (by_test (is_word (codes "section") t) (one_token some_string)
    (by_test (is_word (codes "comdat") t) (nothing tt)
    (when (is_mark 33 t) behind_sign)))

abbrev pub a_tail : Spelling (Unit {0})
a_tail = Led tail_led

abbrev pub some_tails : Spelling (Unit {0})
some_tails = skips (with_comma a_tail)
