-- What tokens spell.
use Rattle.std.specs.Prelude.{ℕ, zero, suc, ◌+◌, ◌-◌, ◌*◌, ◌^◌, ◌&&◌, ◌==◌, nat_le, nat_lt, if◌then◌else◌, List, [], ◌∷◌, length, drop, take, Option, Some, None, slice_index}
use Rattle.ir_lex.specs.declared.token.TokenKind.{TokenKind}
use Rattle.ir_lex.specs.declared.token.TokenKind.TheVariants as kind
use Rattle.ir_lex.specs.declared.token.Form.{Form}
use Rattle.ir_lex.specs.declared.token.Form.TheVariants as form
use Rattle.ir_lex.specs.declared.token.Cause.{Cause}
use Rattle.ir_lex.specs.declared.token.Cause.TheVariants as cause
use Rattle.pv_base.specs.declared.name.Name.{Name}
use Rattle.pv_base.specs.declared.name.Name.TheVariants.{Named, Numbered}
use Rattle.ir_lex.specs.declared.token.Integer.{Integer}
use Rattle.ir_lex.specs.Classes.{is_digit, is_hex, hex_value}

-- the number that decimal digits spell behind others
unfoldable pub number_after : ℕ → List ℕ → ℕ
number_after n [] = n
number_after n (b ∷ rest) = number_after (n * 10 + (b - 48)) rest

-- the number that decimal digits spell
abbrev pub number : List ℕ → ℕ
number digits = number_after 0 digits

-- how many bytes of a string are written for its first byte: \\ stands for a backslash, \ and two hexadecimal digits for that byte, every other byte for itself
unfoldable pub written : List ℕ → ℕ
written text =
    if slice_index text 0 == 92 && slice_index text 1 == 92 then 2
    else (if slice_index text 0 == 92 && is_hex (slice_index text 1) && is_hex (slice_index text 2) then 3
    else 1)

-- the byte that they stand for
unfoldable pub meant : List ℕ → ℕ
meant text = if written text == 3 then 16 * hex_value (slice_index text 1) + hex_value (slice_index text 2) else slice_index text 0

-- the bytes that a string stands for, after so many bytes that are written for one before it
unfoldable pub decoded_from : List ℕ → ℕ → List ℕ
decoded_from [] passing = []
decoded_from (b ∷ rest) (suc n) = decoded_from rest n
decoded_from (b ∷ rest) zero = meant (b ∷ rest) ∷ decoded_from rest (written (b ∷ rest) - 1)

-- the bytes that a string stands for
abbrev pub decoded : List ℕ → List ℕ
decoded text = decoded_from text 0

-- what stands between the quotes
abbrev pub unquoted : List ℕ → List ℕ
unquoted text = take (length text - 2) (drop 1 text)

-- the bytes of a name's token without its sign or its colon
abbrev pub name_part : TokenKind → List ℕ → List ℕ
name_part kind.Label text = take (length text - 1) text
name_part _ text = drop 1 text

-- the name that these bytes spell: digits are the number of a value without a name, others a name, quoted digits too
unfoldable pub name_of : List ℕ → Name
name_of text =
    if is_digit (slice_index text 0) then Numbered (number text)
    else (if slice_index text 0 == 34 then Named (decoded (unquoted text))
    else Named text)

-- the digits of an integer
abbrev pub digits_of : List ℕ → List ℕ
digits_of text = if slice_index text 0 == 45 then drop 1 text else text

-- the integer that these bytes spell
abbrev pub integer_of : List ℕ → Integer
integer_of text = record { negative = slice_index text 0 == 45; magnitude = number (digits_of text) }

-- a name may have 4,096 bytes
abbrev pub longer : ℕ → Option Cause
longer n = if nat_lt 4096 n then Some cause.TooLong else None

-- the limit that a name passes, by its number, or else by the bytes that it spells; digits count as they are written
unfoldable pub name_limit : List ℕ → Option Cause
name_limit text =
    if is_digit (slice_index text 0) then (if nat_le (2 ^ 63) (number text) then Some cause.Number else longer (length text))
    else (if slice_index text 0 == 34 then longer (length (decoded (unquoted text)))
    else longer (length text))

-- an integer is below 2^128
abbrev pub integer_limit : List ℕ → Option Cause
integer_limit text = if nat_le (2 ^ 128) (number (digits_of text)) then Some cause.Number else None

-- the limit that a piece passes
unfoldable pub limit_of : Form → List ℕ → Option Cause
limit_of (form.Token kind.GlobalName) text = name_limit (name_part kind.GlobalName text)
limit_of (form.Token kind.LocalName) text = name_limit (name_part kind.LocalName text)
limit_of (form.Token kind.Label) text = name_limit (name_part kind.Label text)
limit_of (form.Token kind.Integer) text = integer_limit text
limit_of _ text = None

-- the kinds of token that are names
abbrev pub IsNameKind : TokenKind → Type 0
IsNameKind kind.GlobalName = Unit {0}
IsNameKind kind.LocalName = Unit {0}
IsNameKind kind.Label = Unit {0}
IsNameKind _ = ⊥
