-- Names, sites and objects. A name is spelled as in LLVM's assembly language: its sign, and then letters, digits and
-- `-$._`, or digits, or a string.
use Rattle.std.specs.Prelude.{ℕ, Bool, ◌&&◌, ◌||◌, [], ◌∷◌, ◌==◌, nat_le, Option, None, Some, Ok, Err, if◌then◌else◌}
use Rattle.std.specs.List.{list_all}
use Rattle.std.specs.Char.{is_ascii_digit}
use Rattle.pv_base.specs.Outside.{Text}
use Rattle.profile_lines.specs.declared.profile.ProfileCause.TheVariants.{Word}
use Rattle.profile_lines.specs.declared.profile.ProfileName.{ProfileName}
use Rattle.profile_lines.specs.declared.profile.ProfileName.TheVariants.{Named, Numbered}
use Rattle.profile_lines.specs.declared.profile.SiteName.{SiteName}
use Rattle.profile_lines.specs.declared.profile.ObjectName.{ObjectName}
use Rattle.profile_lines.specs.declared.profile.ObjectName.TheVariants.{Global, At}
use Rattle.profile_lines.specs.Cuts.{Reading, map_reading, parted, cut}
use Rattle.profile_lines.specs.Numbers.{number_of, hex_digit, byte_of, led}

-- a byte that stands for itself in a name: a letter, a digit, or one of `-$._`
abbrev pub is_name_byte : ℕ → Bool
is_name_byte b =
    (nat_le 97 b && nat_le b 122) || (nat_le 65 b && nat_le b 90) || is_ascii_digit b || b == 45 || b == 36 || b == 46
    || b == 95

-- what a string says after its first quote: a byte of a name is itself, `\` and two digits are one byte, and the last
-- byte is the closing quote
abbrev pub unquoted : Text → Option Text
unquoted [] = None
unquoted (a ∷ []) = if a == 34 then Some [] else None
unquoted (a ∷ b ∷ []) = if is_name_byte a then led (Some a) (unquoted (b ∷ [])) else None
unquoted (a ∷ b ∷ c ∷ rest) =
    if a == 92
    then led (byte_of (hex_digit b) (hex_digit c)) (unquoted rest)
    else (if is_name_byte a then led (Some a) (unquoted (b ∷ c ∷ rest)) else None)

abbrev pub named : Option Text → Reading ProfileName
named None = Err Word
named (Some name) = Ok (Named name)

-- bytes that stand for themselves
abbrev pub plain_name : Text → Reading ProfileName
plain_name text = if list_all is_name_byte text then Ok (Named text) else Err Word

-- a name without its sign
abbrev pub unsigned_name : Text → Reading ProfileName
unsigned_name [] = Err Word
unsigned_name (b ∷ bs) =
    if b == 34
    then named (unquoted bs)
    else (
    if is_ascii_digit b
    then map_reading (λ n. Numbered n) (number_of (b ∷ bs))
    else plain_name (b ∷ bs)
    )

-- a name after this sign
abbrev pub name_of : ℕ → Text → Reading ProfileName
name_of sign [] = Err Word
name_of sign (b ∷ bs) = if b == sign then unsigned_name bs else Err Word

-- `@f`, `%r`
abbrev pub global_name : Text → Reading ProfileName
global_name = name_of 64

abbrev pub local_name : Text → Reading ProfileName
local_name = name_of 37

abbrev pub site_from : ProfileName × ℕ → SiteName
site_from p = record { function = p.0; place = p.1 }

-- `@f:12`
abbrev pub site_parts : Option (Text × Text) → Reading SiteName
site_parts parts = map_reading site_from (parted global_name number_of parts)

abbrev pub site_of : Text → Reading SiteName
site_of text = site_parts (cut 58 text)

-- `@g` or `@f:12`
abbrev pub object_parts : Text → Option (Text × Text) → Reading ObjectName
object_parts text None = map_reading (λ n. Global n) (global_name text)
object_parts text (Some parts) = map_reading (λ s. At s) (site_parts (Some parts))

abbrev pub object_of : Text → Reading ObjectName
object_of text = object_parts text (cut 58 text)

-- `@f:12/0`
abbrev pub slot_of : Text → Reading (SiteName × ℕ)
slot_of text = parted site_of number_of (cut 47 text)
