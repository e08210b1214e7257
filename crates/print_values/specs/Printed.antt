-- Printed pieces whose tokens spell a value.
use Rattle.std.specs.Prelude.{◌≡◌, ℕ, List, All, None}
use Rattle.ir_lex.specs.declared.token.Form.TheVariants as form
use Rattle.ir_lex.specs.Spelling.{limit_of}
use Rattle.ir_text.specs.Tokens.{TokenV}
use Rattle.ir_printer.specs.Pieces.{Piece}
use Rattle.print_tokens.specs.Tokens.{tokens_on}
use Rattle.print_tokens.specs.Standing.{AreBytes, PieceFits}

-- a token of a text: of bytes, and within the limits
pub record IsSound (t : TokenV) : Type 0 where
  pub limits : limit_of (form.Token t.kind) t.text ≡ None
  pub bytes : AreBytes t.text

abbrev pub AreSound : List TokenV → Type 0
AreSound ws = All IsSound ws

-- the pieces fit, and their tokens spell the value on whatever line
pub record Printed (spells : List TokenV → Type 0) (ps : List Piece) : Type 0 where
  pub spelled : (line : ℕ) → spells (tokens_on line ps)
  pub fits : All PieceFits ps
