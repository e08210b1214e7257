-- The tokens of a text, and the first place where none can be read.
use Rattle.std.specs.Prelude.{◌≡◌, ℕ, zero, suc, ◌+◌, ◌-◌, ◌<◌, ◌≤◌, Bool, ◌&&◌, ◌||◌, ◌==◌, if◌then◌else◌, List, [], ◌∷◌, length, drop, take, Option, Some, None, slice_index, slice_range}
use Rattle.std.specs.List.{prefix_len}
use Rattle.ir_lex.specs.declared.token.TokenKind.TheVariants as kind
use Rattle.ir_lex.specs.declared.token.Form.{Form}
use Rattle.ir_lex.specs.declared.token.Form.TheVariants as form
use Rattle.ir_lex.specs.declared.token.Piece.{Piece}
use Rattle.ir_lex.specs.declared.token.Piece.TheVariants as piece
use Rattle.ir_lex.specs.declared.token.Cause.{Cause}
use Rattle.ir_lex.specs.declared.token.Cause.TheVariants as cause
use Rattle.ir_lex.specs.declared.token.Token.{Token}
use Rattle.ir_lex.specs.declared.token.Lexed.{Lexed}
use Rattle.ir_lex.specs.Classes.{is_name_byte, in_string}
use Rattle.ir_lex.specs.Forms.{form_of, form_len, label_len}
use Rattle.ir_lex.specs.Spelling.{limit_of}

-- all of it passes the test
abbrev pub all_pass : (ℕ → Bool) → List ℕ → Bool
all_pass p text = prefix_len p text == length text

-- a token begins at the front, and the text ends before the token does
unfoldable pub ends_inside : List ℕ → Bool
ends_inside text =
    let b = slice_index text 0 in
    if b == 34 then all_pass in_string (drop 1 text)
    else (if b == 64 || b == 37 then length text == 1 || (slice_index text 1 == 34 && all_pass in_string (drop 2 text))
    else ((b == 45 || b == 46) && all_pass is_name_byte text))

-- why no token can be read at the front
unfoldable pub fault_of : List ℕ → Cause
fault_of text = if ends_inside text then cause.End else cause.Token

-- a piece within the limits, or the limit that it passes
abbrev pub limited : Option Cause → Form → ℕ → Piece
limited None f n = piece.Found f n
limited (Some why) f n = piece.Bad why

-- the piece of this form
abbrev pub piece_as : Option Form → List ℕ → Piece
piece_as None text = piece.Bad (fault_of text)
piece_as (Some f) text =
    if form_len f text == 0 then piece.Bad (fault_of text)
    else limited (limit_of f (take (form_len f text) text)) f (form_len f text)

-- the longest piece at the front, a label before every other
unfoldable pub piece_of : List ℕ → Piece
piece_of text = piece_as (if label_len text == 0 then form_of (slice_index text 0) else Some (form.Token kind.Label)) text

-- a piece has at least one byte and at most so many
abbrev pub Fits : Piece → ℕ → Type 0
Fits (piece.Found f n) most = (0 < n) × (n ≤ most)
Fits (piece.Bad why) most = Unit {0}

abbrev pub with_token : Token → Lexed → Lexed
with_token t x = record { tokens = t ∷ x.tokens; fault = x.fault }

-- these tokens, and a fault behind them
abbrev pub faulty : List Token → ℕ → Cause → Lexed
faulty ts line why = record { tokens = ts; fault = Some (record { line = line; cause = why }) }

-- the line after a byte
abbrev pub line_after : ℕ → ℕ → ℕ
line_after line b = if b == 10 then line + 1 else line

-- what a piece and what stands after it make; go_on takes the bytes of the piece yet to pass, and the line
abbrev pub piece_then : Piece → ℕ → ℕ → ℕ → (ℕ → ℕ → Lexed) → Lexed
piece_then (piece.Found form.Gap n) b at line go_on = go_on (n - 1) (line_after line b)
piece_then (piece.Found (form.Token k) n) b at line go_on = with_token (record { kind = k; from = at; to = at + n; line = line }) (go_on (n - 1) line)
piece_then (piece.Bad why) b at line go_on = faulty [] line why

-- what stands from a place on, after so many bytes of the piece that was begun before it
unfoldable pub lexed_from : List ℕ → ℕ → ℕ → ℕ → Lexed
lexed_from [] passing at line = record { tokens = []; fault = None }
lexed_from (b ∷ rest) (suc n) at line = lexed_from rest n (at + 1) line
lexed_from (b ∷ rest) zero at line = piece_then (piece_of (b ∷ rest)) b at line (λ n after. lexed_from rest n (at + 1) after)

-- the tokens of a text before the first lexical fault, and that fault
unfoldable pub lexed : List ℕ → Lexed
lexed text = lexed_from text 0 0 1

-- the token is a part of the text, and within the limits
pub record TokenIn (text : List ℕ) (t : Token) : Type 0 where
  pub begins : t.from < t.to
  pub ends : t.to ≤ length text
  pub limits : limit_of (form.Token t.kind) (slice_range text t.from t.to) ≡ None
