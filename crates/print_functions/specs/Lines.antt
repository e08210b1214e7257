-- Printed lines whose tokens spell a value.
use Rattle.std.specs.Prelude.{◌≡◌, ℕ, true, not, List, ◌++◌, All}
use Rattle.std.specs.List.{list_all}
use Rattle.ir_text.specs.Tokens.{TokenV}
use Rattle.ir_printer.specs.Pieces.{Piece}
use Rattle.print_tokens.specs.Tokens.{tokens_from}
use Rattle.print_tokens.specs.Standing.{PieceFits, is_type_word, apart}

-- the pieces fit, and their tokens spell the value, from whatever line on
pub record PrintedLines (spells : List TokenV → Type 0) (ps : List Piece) : Type 0 where
  pub spelled : (line : ℕ) → spells (tokens_from line ps)
  pub fits : All PieceFits ps

-- whole lines that stand apart before any others, and define no type
pub record AreLines (ps : List Piece) : Type 0 where
  pub untyped : list_all (λ p. not (is_type_word p)) ps ≡ true
  pub stand : (qs : List Piece) → apart qs ≡ true → apart (ps ++ qs) ≡ true
