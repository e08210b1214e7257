-- Formats of `printf`, after its description in the C standard, with the few directives that are taken here: `%d %i %u %x %c` of
-- an integer of 32 bits, `%ld %lu %lx %lld %llu` of one of 64 bits, `%s` of a pointer to a text, and `%%`.
use Rattle.std.specs.Prelude.{ℕ, zero, suc, ◌+◌, ◌-◌, ◌==◌, ◌||◌, ◌++◌, List, [], ◌∷◌, Option, Some, None, is_some, option_and_then, slice_get, decimal, false, if◌then◌else◌}
use Rattle.std.specs.Fmt.{digits, signed_decimal, option_append}
use Rattle.pv_base.specs.Outside.{Text}
use Rattle.int_num.specs.Integer.{Integer, signed, low_byte}
use Rattle.seq_calls.specs.declared.directive.Directive.{Directive}
use Rattle.seq_calls.specs.declared.directive.Directive.TheVariants as directive
use Rattle.seq_calls.specs.declared.directive.Piece.{Piece}
use Rattle.seq_calls.specs.declared.directive.Piece.TheVariants as piece
use Rattle.seq_calls.specs.declared.directive.Front.{Front}
use Rattle.seq_calls.specs.declared.show.Arg.{Arg}
use Rattle.seq_calls.specs.declared.show.Arg.TheVariants as arg

-- what one letter behind `%` stands for
abbrev pub letter : ℕ → Option Piece
letter b =
    if b == 100 || b == 105 then Some (piece.Directive (directive.Signed 32))
    else (if b == 117 then Some (piece.Directive (directive.Unsigned 32))
    else (if b == 120 then Some (piece.Directive (directive.Hexadecimal 32))
    else (if b == 99 then Some (piece.Directive directive.Character)
    else (if b == 115 then Some (piece.Directive directive.Text)
    else (if b == 37 then Some (piece.Byte 37)
    else None)))))

-- and one behind `%l`
abbrev pub long_letter : ℕ → Option Piece
long_letter b =
    if b == 100 then Some (piece.Directive (directive.Signed 64))
    else (if b == 117 then Some (piece.Directive (directive.Unsigned 64))
    else (if b == 120 then Some (piece.Directive (directive.Hexadecimal 64))
    else None))

-- and one behind `%ll`
abbrev pub longest_letter : ℕ → Option Piece
longest_letter b =
    if b == 100 then Some (piece.Directive (directive.Signed 64))
    else (if b == 117 then Some (piece.Directive (directive.Unsigned 64))
    else None)

-- a piece and how many bytes of the format it takes; where there is none, a `%` that begins no directive
abbrev pub spanning : ℕ → Option Piece → Front
spanning length None = record { piece = piece.Wrong; length = 1 }
spanning length (Some p) = record { piece = p; length = length }

abbrev pub longest_of : Text → Front
longest_of [] = spanning 1 None
longest_of (b ∷ rest) = spanning 4 (longest_letter b)

abbrev pub long_of : Text → Front
long_of [] = spanning 1 None
long_of (b ∷ rest) = if b == 108 then longest_of rest else spanning 3 (long_letter b)

-- the directive whose `%` stands before these bytes
unfoldable pub directive_of : Text → Front
directive_of [] = spanning 1 None
directive_of (b ∷ rest) = if b == 108 then long_of rest else spanning 2 (letter b)

-- the first piece of a format that is not at its end
unfoldable pub front_of : Text → Front
front_of [] = spanning 1 None
front_of (b ∷ rest) = if b == 37 then directive_of rest else spanning 1 (Some (piece.Byte b))

-- the pieces behind so many bytes of the piece that was begun before
unfoldable pub pieces_behind : ℕ → Text → List Piece
pieces_behind passing [] = []
pieces_behind (suc n) (b ∷ rest) = pieces_behind n rest
pieces_behind zero (b ∷ rest) = (front_of (b ∷ rest)).piece ∷ pieces_behind ((front_of (b ∷ rest)).length - 1) rest

abbrev pub pieces : Text → List Piece
pieces format = pieces_behind 0 format

-- the text, where the integer has so many bits
abbrev pub of_bits : ℕ → Integer → Text → Option Text
of_bits width n text = if n.width == width then Some text else None

-- what a directive prints of an argument of its type; a pointer whose text was not read prints nothing
unfoldable pub shown : Directive → Arg → Option Text
shown (directive.Signed width) (arg.Int n) = of_bits width n (signed_decimal (signed n))
shown (directive.Unsigned width) (arg.Int n) = of_bits width n (decimal n.bits)
shown (directive.Hexadecimal width) (arg.Int n) = of_bits width n (digits 16 false n.bits)
shown directive.Character (arg.Int n) = of_bits 32 n (low_byte n ∷ [])
shown directive.Text (arg.Text t) = Some t
shown directive.Text arg.Other = Some []
shown _ _ = None

-- what a piece prints, where a directive takes the argument of this number; None where it traps
unfoldable pub text_of : Piece → List Arg → ℕ → Option Text
text_of (piece.Byte b) args number = Some (b ∷ [])
text_of (piece.Directive d) args number = option_and_then (shown d) (slice_get args number)
text_of piece.Wrong args number = None

-- the number of the argument that the next directive takes
abbrev pub next_number : Piece → ℕ → ℕ
next_number (piece.Directive d) number = number + 1
next_number (piece.Byte b) number = number
next_number piece.Wrong number = number

-- what the pieces print, if none of them traps
unfoldable pub printed : List Piece → List Arg → ℕ → Option Text
printed [] args number = Some []
printed (p ∷ rest) args number = option_append (text_of p args number) (printed rest args (next_number p number))

-- what a format prints of these arguments; None where it traps
unfoldable pub formatted : Text → List Arg → Option Text
formatted format args = printed (pieces format) args 0

-- the number of the argument whose text a piece takes
abbrev pub text_number : Piece → ℕ → List ℕ
text_number (piece.Directive directive.Text) number = number ∷ []
text_number _ number = []

-- the arguments whose texts the pieces before the first trap take
unfoldable pub texts_of : List Piece → List Arg → ℕ → List ℕ
texts_of [] args number = []
texts_of (p ∷ rest) args number =
    if is_some (text_of p args number) then text_number p number ++ texts_of rest args (next_number p number) else []

unfoldable pub text_args : Text → List Arg → List ℕ
text_args format args = texts_of (pieces format) args 0

-- there is an argument, and it is a pointer
abbrev pub IsPointer : Option Arg → Type 0
IsPointer None = ⊥
IsPointer (Some (arg.Int n)) = ⊥
IsPointer (Some (arg.Text t)) = Unit {0}
IsPointer (Some arg.Other) = Unit {0}
