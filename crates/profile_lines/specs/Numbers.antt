-- Numbers and bytes in digits.
use Rattle.std.specs.Prelude.{ℕ, ◌+◌, ◌-◌, ◌*◌, ◌^◌, ℤ, pos, ◌-ℤ◌, Bool, ◌&&◌, [], ◌∷◌, ◌==◌, length, fold, nat_lt, nat_le, Option, None, Some, Ok, Err, if◌then◌else◌}
use Rattle.std.specs.List.{list_all}
use Rattle.std.specs.Char.{is_ascii_digit}
use Rattle.pv_base.specs.Outside.{Text}
use Rattle.profile_lines.specs.declared.profile.ProfileCause.TheVariants.{Word, Number}
use Rattle.profile_lines.specs.Cuts.{Reading, map_reading}

-- one decimal digit or more
abbrev pub is_digits : Text → Bool
is_digits text = nat_lt 0 (length text) && list_all is_ascii_digit text

-- the number that the digits write
abbrev pub decimal : Text → ℕ
decimal digits = fold (λ n digit. n * 10 + (digit - 48)) 0 digits

-- a number of at most 2^63-1
abbrev pub number_of : Text → Reading ℕ
number_of text =
    if is_digits text then (if nat_lt (decimal text) (2 ^ 63) then Ok (decimal text) else Err Number) else Err Word

-- a number that was read, where it is a period's length
abbrev pub in_period : Reading ℕ → Reading ℕ
in_period (Ok n) = if nat_le 1 n && nat_le n 65533 then Ok n else Err Number
in_period (Err cause) = Err cause

-- a number from 1 to 65,533
abbrev pub period_of : Text → Reading ℕ
period_of text = in_period (number_of text)

-- the negative of a number of at most 2^63
abbrev pub negative_of : Text → Reading ℤ
negative_of text =
    if is_digits text
    then (if nat_le (decimal text) (2 ^ 63) then Ok (pos 0 -ℤ pos (decimal text)) else Err Number)
    else Err Word

-- a number from -2^63 to 2^63-1, with a minus where it is negative
abbrev pub signed_of : Text → Reading ℤ
signed_of [] = Err Word
signed_of (b ∷ bs) = if b == 45 then negative_of bs else map_reading (λ n. pos n) (number_of (b ∷ bs))

-- the value of a lower-case hexadecimal digit
abbrev pub lower_digit : ℕ → Option ℕ
lower_digit b =
    if nat_le 48 b && nat_le b 57
    then Some (b - 48)
    else (if nat_le 97 b && nat_le b 102 then Some (b - 87) else None)

-- the value of a hexadecimal digit of either case
abbrev pub hex_digit : ℕ → Option ℕ
hex_digit b = if nat_le 65 b && nat_le b 70 then Some (b - 55) else lower_digit b

-- the byte of two digits
abbrev pub byte_of : Option ℕ → Option ℕ → Option ℕ
byte_of (Some high) (Some low) = Some (high * 16 + low)
byte_of (Some high) None = None
byte_of None low = None

-- a byte and what follows it, where both are there
abbrev pub led : Option ℕ → Option Text → Option Text
led (Some b) (Some bs) = Some (b ∷ bs)
led (Some b) None = None
led None bs = None

-- the bytes of pairs of lower-case digits
abbrev pub hex_bytes : Text → Option Text
hex_bytes [] = Some []
hex_bytes (a ∷ []) = None
hex_bytes (a ∷ b ∷ rest) = led (byte_of (lower_digit a) (lower_digit b)) (hex_bytes rest)

abbrev pub sized : Option Text → Reading Text
sized None = Err Word
sized (Some []) = Err Word
sized (Some (b ∷ bs)) = if nat_le (length (b ∷ bs)) 1024 then Ok (b ∷ bs) else Err Number

-- one byte or more, at most 1,024
abbrev pub value_of : Text → Reading Text
value_of text = sized (hex_bytes text)
