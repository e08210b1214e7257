-- Classes of bytes.
use Rattle.std.specs.Prelude.{ℕ, ◌-◌, Bool, not, ◌&&◌, ◌||◌, ◌==◌, nat_le, if◌then◌else◌}

-- space, tab, carriage return, newline
unfoldable pub is_blank : ℕ → Bool
is_blank b = b == 32 || b == 9 || b == 13 || b == 10

-- 0 to 9
unfoldable pub is_digit : ℕ → Bool
is_digit b = nat_le 48 b && nat_le b 57

-- a to z, A to Z
unfoldable pub is_letter : ℕ → Bool
is_letter b = (nat_le 97 b && nat_le b 122) || (nat_le 65 b && nat_le b 90)

-- a digit, a to f, A to F
unfoldable pub is_hex : ℕ → Bool
is_hex b = is_digit b || (nat_le 97 b && nat_le b 102) || (nat_le 65 b && nat_le b 70)

-- the value of a hexadecimal digit, in either case
unfoldable pub hex_value : ℕ → ℕ
hex_value b = if is_digit b then b - 48 else (if nat_le 97 b then b - 87 else b - 55)

-- what a name may begin with: a letter, or one of $ . _ -
unfoldable pub is_name_start : ℕ → Bool
is_name_start b = is_letter b || b == 36 || b == 46 || b == 95 || b == 45

-- and what may follow: a digit too
unfoldable pub is_name_byte : ℕ → Bool
is_name_byte b = is_name_start b || is_digit b

-- what a word may begin with: a letter or _
unfoldable pub is_word_start : ℕ → Bool
is_word_start b = is_letter b || b == 95

-- and what may follow: a digit, - and . too
unfoldable pub is_word_byte : ℕ → Bool
is_word_byte b = is_word_start b || is_digit b || b == 45 || b == 46

-- = , ( ) [ ] { } < > ! # $ * |
unfoldable pub is_mark : ℕ → Bool
is_mark b = b == 61 || b == 44 || b == 40 || b == 41 || b == 91 || b == 93 || b == 123 || b == 125 || b == 60 || b == 62 || b == 33 || b == 35 || b == 36 || b == 42 || b == 124

-- before the line's end
unfoldable pub in_line : ℕ → Bool
in_line b = not (b == 10)

-- before the closing quote and the line's end
unfoldable pub in_string : ℕ → Bool
in_string b = not (b == 10) && not (b == 34)
