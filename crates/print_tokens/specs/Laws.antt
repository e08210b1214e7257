-- What is said of the tokens of pieces.
use Rattle.std.specs.Prelude.{◌≡◌, true, List, All, None}
use Rattle.ir_lex.specs.Lexing.{lexed}
use Rattle.ir_grammar.specs.Texts.{read_tokens}
use Rattle.ir_printer.specs.Pieces.{Piece, bytes_of}
use Rattle.print_tokens.specs.Tokens.{tokens_from}
use Rattle.print_tokens.specs.Standing.{PieceFits, apart}

-- the text of these pieces has no lexical fault, and its tokens are theirs
pub record ReadsAs (ps : List Piece) : Type 0 where
  pub lexical : (lexed (bytes_of ps)).fault ≡ None
  pub tokens : read_tokens (bytes_of ps) ≡ tokens_from 1 ps

-- pieces that fit and stand apart are the tokens of their text
abbrev pub PiecesAreRead : Type 0
PiecesAreRead = (ps : List Piece) → All PieceFits ps → apart ps ≡ true → ReadsAs ps
