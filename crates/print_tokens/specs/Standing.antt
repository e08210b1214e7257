-- Pieces that stand as tokens in a text.
use Rattle.std.specs.Prelude.{ℕ, nat_abs, ◌<◌, ◌≤◌, ◌^◌, Bool, true, false, not, ◌&&◌, ◌||◌, ◌==◌, ◌≡◌, List, [], ◌∷◌, ◌++◌, All, length, codes}
use Rattle.std.specs.List.{list_all}
use Rattle.pv_base.specs.declared.name.Name.{Name}
use Rattle.pv_base.specs.declared.name.Name.TheVariants.{Named, Numbered}
use Rattle.ir_lex.specs.Classes.{is_word_start, is_word_byte}
use Rattle.ir_lex.specs.Cut.{IsRun}
use Rattle.ir_text.specs.Tokens.{same}
use Rattle.ir_printer.specs.Pieces.{Piece, Blank, LineEnd, Word, Mark, Global, Local, Label, Number, Quote}

-- each is a byte
abbrev pub AreBytes : List ℕ → Type 0
AreBytes bs = All (λ b. b < 256) bs

-- a name that a token may spell: at most 4,096 bytes, or a number below 2^63
abbrev pub NameFits : Name → Type 0
NameFits (Named bs) = AreBytes bs × (length bs ≤ 4096)
NameFits (Numbered n) = n < 2 ^ 63

-- = , ( ) [ ] { } < >, the marks of canonical text
unfoldable pub is_plain_mark : ℕ → Bool
is_plain_mark b = b == 61 || b == 44 || b == 40 || b == 41 || b == 91 || b == 93 || b == 123 || b == 125 || b == 60 || b == 62

-- a piece that is one token within the limits
abbrev pub PieceFits : Piece → Type 0
PieceFits (Word bs) = IsRun is_word_start is_word_byte bs
PieceFits (Mark b) = is_plain_mark b ≡ true
PieceFits (Global n) = NameFits n
PieceFits (Local n) = NameFits n
PieceFits (Label n) = NameFits n
PieceFits (Number z) = nat_abs z < 2 ^ 128
PieceFits (Quote bs) = AreBytes bs
PieceFits _ = Unit {0}

-- ---- pieces apart

-- a token that bytes behind it may go on with
abbrev pub needs_end : Piece → Bool
needs_end Blank = false
needs_end LineEnd = false
needs_end (Mark b) = false
needs_end (Label n) = false
needs_end p = true

-- a piece that goes on with no token before it
abbrev pub is_end : Piece → Bool
is_end Blank = true
is_end LineEnd = true
is_end (Mark b) = true
is_end (Quote bs) = true
is_end p = false

abbrev pub begins_end : List Piece → Bool
begins_end [] = true
begins_end (p ∷ ps) = is_end p

-- no token goes on with the bytes of the piece behind it
abbrev pub apart : List Piece → Bool
apart [] = true
apart (p ∷ ps) = (not (needs_end p) || begins_end ps) && apart ps

-- ---- pieces on one line

abbrev pub is_line_end : Piece → Bool
is_line_end LineEnd = true
is_line_end p = false

abbrev pub is_type_word : Piece → Bool
is_type_word (Word bs) = same bs (codes "type")
is_type_word p = false

-- what stands inside a line, and defines no type: it has no line end and no word `type`, and stands apart before what ends a token
pub record Inline (ps : List Piece) : Type 0 where
  pub one_line : list_all (λ p. not (is_line_end p)) ps ≡ true
  pub untyped : list_all (λ p. not (is_type_word p)) ps ≡ true
  pub stands : (qs : List Piece) → begins_end qs ≡ true → apart qs ≡ true → apart (ps ++ qs) ≡ true
