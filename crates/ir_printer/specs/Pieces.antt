-- The pieces of a text, which are its tokens and what stands between them, and how each is spelled.
use Rattle.std.specs.Prelude.{ℕ, ◌+◌, ◌/◌, ◌%◌, ℤ, Bool, true, false, ◌&&◌, nat_lt, if◌then◌else◌, List, [], ◌∷◌, ◌++◌, codes, decimal}
use Rattle.std.specs.Fmt.{signed_decimal}
use Rattle.std.specs.List.{list_all}
use Rattle.pv_base.specs.declared.name.Name.{Name}
use Rattle.pv_base.specs.declared.name.Name.TheVariants.{Named, Numbered}
use Rattle.ir_lex.specs.Classes.{is_name_start, is_name_byte}

pub data Piece : Type 0 where
  -- a blank and the end of a line, which stand between tokens
  Blank : Piece
  LineEnd : Piece
  -- a word, by its bytes
  Word : List ℕ → Piece
  -- a mark of one byte
  Mark : ℕ → Piece
  -- `...`
  Dots : Piece
  -- `@name`, `%name`, `name:`
  Global : Name → Piece
  Local : Name → Piece
  Label : Name → Piece
  -- an integer
  Number : ℤ → Piece
  -- a string, by the bytes that it stands for
  Quote : List ℕ → Piece

-- a hexadecimal digit, in upper case
unfoldable pub upper_hex : ℕ → ℕ
upper_hex n = if nat_lt n 10 then 48 + n else 55 + n

-- a byte in quotes: as it is where a name may have it, else `\` and two hexadecimal digits
unfoldable pub escaped_byte : ℕ → List ℕ
escaped_byte b = if is_name_byte b then b ∷ [] else 92 ∷ upper_hex (b / 16) ∷ upper_hex (b % 16) ∷ []

unfoldable pub escaped : List ℕ → List ℕ
escaped [] = []
escaped (b ∷ bs) = escaped_byte b ++ escaped bs

-- bytes in quotes
abbrev pub quoted : List ℕ → List ℕ
quoted bs = 34 ∷ escaped bs ++ 34 ∷ []

-- a name that needs no quotes: [-a-zA-Z$._][-a-zA-Z$._0-9]* (LLVM Language Reference, "Identifiers")
abbrev pub is_plain : List ℕ → Bool
is_plain [] = false
is_plain (b ∷ bs) = is_name_start b && list_all is_name_byte bs

-- a name without sign or colon: a number in decimal, other bytes plain where they may stand so, else in quotes
unfoldable pub name_text : Name → List ℕ
name_text (Named bs) = if is_plain bs then bs else quoted bs
name_text (Numbered n) = decimal n

-- the bytes of a piece
abbrev pub spelled : Piece → List ℕ
spelled Blank = 32 ∷ []
spelled LineEnd = 10 ∷ []
spelled (Word bs) = bs
spelled (Mark b) = b ∷ []
spelled Dots = codes "..."
spelled (Global n) = 64 ∷ name_text n
spelled (Local n) = 37 ∷ name_text n
spelled (Label n) = name_text n ++ 58 ∷ []
spelled (Number z) = signed_decimal z
spelled (Quote bs) = quoted bs

-- the bytes of pieces, one after another
abbrev pub bytes_of : List Piece → List ℕ
bytes_of [] = []
bytes_of (p ∷ ps) = spelled p ++ bytes_of ps

abbrev pub comma : List Piece
comma = Mark 44 ∷ Blank ∷ []

-- each behind a comma
abbrev pub led : List (List Piece) → List Piece
led [] = []
led (p ∷ ps) = comma ++ p ++ led ps

-- with commas between them
abbrev pub separated : List (List Piece) → List Piece
separated [] = []
separated (p ∷ ps) = p ++ led ps

-- what stands in brackets, and whether something stands there before it: blanks at both ends and commas between
abbrev pub within : Bool → List (List Piece) → List Piece
within false [] = []
within true [] = Blank ∷ []
within false (p ∷ ps) = Blank ∷ p ++ within true ps
within true (p ∷ ps) = comma ++ p ++ within true ps

-- all of them, one after another
abbrev pub joined : List (List Piece) → List Piece
joined [] = []
joined (p ∷ ps) = p ++ joined ps
