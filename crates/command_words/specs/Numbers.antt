-- Numbers in words.
use Rattle.std.specs.Prelude.{◌+◌, ◌-◌, ◌*◌, ◌&&◌, ℕ, List, [], ◌∷◌, length, Option, Some, None, Result, Ok, Err, nat_lt, nat_le, if◌then◌else◌, option_and_then}
use Rattle.std.specs.Char.{is_ascii_digit}
use Rattle.pv_base.specs.Outside.{Text}
use Rattle.command_words.specs.Usage.{usage_number}
use Rattle.command_words.specs.declared.numerals.Numeral.{Numeral as WrittenNumeral}

-- the number that the digits write when they follow those of n
abbrev pub number_after : ℕ → Text → Option ℕ
number_after n [] = Some n
number_after n (c ∷ cs) = if is_ascii_digit c then number_after (n * 10 + (c - 48)) cs else None

-- one to nineteen decimal digits, leading zeros among them
abbrev pub number_of : Text → Option ℕ
number_of text = if nat_lt 0 (length text) && nat_le (length text) 19 then number_after 0 text else None

-- a number from low to high
abbrev pub number_within : ℕ → ℕ → Text → Option ℕ
number_within low high text =
    option_and_then (λ n. if nat_le low n && nat_le n high then Some n else None) (number_of text)

-- a text that is to be a number from low to high, and the name that a refusal of it prints
pub record Numeral : Type 0 where
  pub name : Text
  pub low : ℕ
  pub high : ℕ
  pub text : Text

abbrev pub numeral : Text → ℕ → ℕ → Text → Numeral
numeral name low high text = record { name = name; low = low; high = high; text = text }

-- the number that is asked for, where the text is one within the limits
abbrev pub number_in : Numeral → Option ℕ
number_in n = number_within n.low n.high n.text

-- the line that refuses the text
abbrev pub refusal_of : Numeral → Text
refusal_of n = usage_number n.name n.text

-- a number before others
abbrev pub number_before : ℕ → Result (List ℕ) Text → Result (List ℕ) Text
number_before value (Ok values) = Ok (value ∷ values)
number_before value (Err line) = Err line

-- a number, if it is one, before others; or the line that refuses it
abbrev pub number_first : Numeral → Option ℕ → Result (List ℕ) Text → Result (List ℕ) Text
number_first n (Some value) rest = number_before value rest
number_first n None rest = Err (refusal_of n)

-- the numbers of these texts in their order, or the line that refuses the first text that is none within its limits
abbrev pub numbers_of : List Numeral → Result (List ℕ) Text
numbers_of [] = Ok []
numbers_of (n ∷ ns) = number_first n (number_in n) (numbers_of ns)

-- a numeral of the code
abbrev pub numeral_of : WrittenNumeral → Numeral
numeral_of n = numeral n.name.now n.low n.high n.text.now
