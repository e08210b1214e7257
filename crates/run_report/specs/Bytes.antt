-- The bytes of a global, as a report spells them.
use Rattle.std.specs.Prelude.{◌++◌, ◌+◌, ◌/◌, ◌%◌, ℕ, zero, suc, nat_lt, if◌then◌else◌, List, [], ◌∷◌, take, Option, None, Some, codes, decimal}
use Rattle.std.specs.Fmt.{signed_decimal}
use Rattle.pv_base.specs.Outside.{Text}
use Rattle.mem_image.specs.declared.object.Pointer.{Pointer}
use Rattle.mem_image.specs.declared.object.Pointer.TheVariants.{Null, Obj, Fun}
use Rattle.mem_image.specs.declared.object.Byte.{Byte}
use Rattle.mem_image.specs.declared.object.Byte.TheVariants.{Unset, Num, Ptr}
use Rattle.seq_effects.specs.Words.{are_parts}

-- a hexadecimal digit, in lower case
abbrev pub lower_hex : ℕ → ℕ
lower_hex n = if nat_lt n 10 then 48 + n else 87 + n

-- a pointer: `null`, `N+O` to object N at the offset O, which may be below 0, or `fI` to function I
abbrev pub pointer_text : Pointer → Text
pointer_text Null = codes "null"
pointer_text (Obj name offset) = decimal name ++ codes "+" ++ signed_decimal offset
pointer_text (Fun index) = codes "f" ++ decimal index

-- the eight bytes of a pointer, in order
abbrev pub whole_text : Pointer → Text
whole_text p = codes "<" ++ pointer_text p ++ codes ">"

-- a byte alone: `--` where it is not set, two digits of a number, or a part of a pointer behind a point
abbrev pub byte_text : Byte → Text
byte_text Unset = codes "--"
byte_text (Num n) = lower_hex (n / 16) ∷ lower_hex (n % 16) ∷ []
byte_text (Ptr part p) = codes "<" ++ pointer_text p ++ codes "." ++ decimal part ++ codes ">"

-- the pointer whose eight bytes stand at the front, in order
abbrev pub pointer_at : List Byte → Option Pointer
pointer_at [] = None
pointer_at (Unset ∷ bytes) = None
pointer_at (Num n ∷ bytes) = None
pointer_at (Ptr part p ∷ bytes) = if are_parts 0 p (take 8 (Ptr part p ∷ bytes)) then Some p else None

-- how the byte at the front is spelled: with the seven behind it, or alone
abbrev pub front_text : Option Pointer → Byte → Text
front_text (Some p) b = whole_text p
front_text None b = byte_text b

-- how many bytes behind the front are spelled with it
abbrev pub front_more : Option Pointer → ℕ
front_more (Some p) = 7
front_more None = 0

-- bytes one after another, behind so many that are spelled already
abbrev pub bytes_after : List Byte → ℕ → Text
bytes_after [] passed = []
bytes_after (b ∷ bytes) (suc passed) = bytes_after bytes passed
bytes_after (b ∷ bytes) zero = front_text (pointer_at (b ∷ bytes)) b ++ bytes_after bytes (front_more (pointer_at (b ∷ bytes)))

-- bytes one after another
unfoldable pub bytes_text : List Byte → Text
bytes_text bytes = bytes_after bytes 0
