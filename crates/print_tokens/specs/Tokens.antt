-- The tokens of pieces, each with its line.
use Rattle.std.specs.Prelude.{ℕ, ◌+◌, List, [], ◌∷◌, Option, Some, None}
use Rattle.ir_lex.specs.declared.token.TokenKind.{TokenKind}
use Rattle.ir_lex.specs.declared.token.TokenKind.TheVariants as kind
use Rattle.ir_text.specs.Tokens.{TokenV}
use Rattle.ir_printer.specs.Pieces.{Piece, Blank, LineEnd, Word, Mark, Dots, Global, Local, Label, Number, Quote, spelled}

-- what kind of token a piece is: a blank and the end of a line are none
abbrev pub kind_of : Piece → Option TokenKind
kind_of Blank = None
kind_of LineEnd = None
kind_of (Word bs) = Some kind.Word
kind_of (Mark b) = Some kind.Punct
kind_of Dots = Some kind.Punct
kind_of (Global n) = Some kind.GlobalName
kind_of (Local n) = Some kind.LocalName
kind_of (Label n) = Some kind.Label
kind_of (Number z) = Some kind.Integer
kind_of (Quote bs) = Some kind.Text

abbrev pub with_token : Option TokenKind → List ℕ → ℕ → List TokenV → List TokenV
with_token None text line ts = ts
with_token (Some k) text line ts = record { kind = k; text = text; line = line } ∷ ts

-- the tokens of pieces that all stand on one line
abbrev pub tokens_on : ℕ → List Piece → List TokenV
tokens_on line [] = []
tokens_on line (p ∷ ps) = with_token (kind_of p) (spelled p) line (tokens_on line ps)

abbrev pub line_behind : ℕ → Piece → ℕ
line_behind line LineEnd = line + 1
line_behind line p = line

-- the tokens of pieces, from a line on
abbrev pub tokens_from : ℕ → List Piece → List TokenV
tokens_from line [] = []
tokens_from line (p ∷ ps) = with_token (kind_of p) (spelled p) line (tokens_from (line_behind line p) ps)
