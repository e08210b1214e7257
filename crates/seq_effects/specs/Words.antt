-- A value as bytes of memory, and bytes as a value (LLVM Language Reference, "Memory Access and Addressing Operations").
use Rattle.std.specs.Prelude.{ℕ, ◌+◌, ◌*◌, ◌^◌, ◌==◌, ◌&&◌, nat_lt, List, [], ◌∷◌, Option, None, Some, option_map, Result, Ok, Err, Bool, true, false, if◌then◌else◌}
use Rattle.int_num.specs.Operations.{of_bits}
use Rattle.ir_code.specs.declared.op.Scalar.{Scalar}
use Rattle.ir_code.specs.declared.op.Scalar.TheVariants as scalar
use Rattle.mem_image.specs.declared.object.Pointer.{Pointer as Address}
use Rattle.mem_image.specs.declared.object.Pointer.TheVariants.{Null, Obj, Fun}
use Rattle.mem_image.specs.declared.object.Byte.{Byte}
use Rattle.mem_image.specs.declared.object.Byte.TheVariants.{Unset, Num, Ptr}
pub use Rattle.mem_image.specs.Bytes.{number_bytes, pointer_bytes}
use Rattle.mem_image.specs.declared.fault.Trap.{Trap}
use Rattle.mem_image.specs.declared.fault.Trap.TheVariants.{UnsetByte, ByteKind, Unreachable}
use Rattle.seq_effects.specs.declared.state.Value.{Value}
use Rattle.seq_effects.specs.declared.state.Value.TheVariants.{Int, Pointer}
use Rattle.seq_effects.specs.Values.{is_of}
use Rattle.seq_effects.specs.Numbers.{same_pointer}

-- how many bytes a value of the type takes; other widths are in no memory
abbrev pub word_length : Scalar → Option ℕ
word_length (scalar.Int width) =
    if width == 1 then Some 1
    else (if width == 8 then Some 1
    else (if width == 16 then Some 2
    else (if width == 32 then Some 4
    else (if width == 64 then Some 8
    else None))))
word_length scalar.Pointer = Some 8

-- null is eight zeros
abbrev pub address_bytes : Address → List Byte
address_bytes Null = number_bytes 8 0
address_bytes (Obj name offset) = pointer_bytes (Obj name offset)
address_bytes (Fun index) = pointer_bytes (Fun index)

abbrev pub value_bytes : ℕ → Value → List Byte
value_bytes len (Int n) = number_bytes len n.bits
value_bytes len (Pointer p) = address_bytes p

abbrev pub stored_in : Option ℕ → Value → Result (List Byte) Trap
stored_in (Some len) v = Ok (value_bytes len v)
stored_in None v = Err Unreachable

-- the bytes of a value of the type
abbrev pub stored : Scalar → Value → Result (List Byte) Trap
stored t v = if is_of v t then stored_in (word_length t) v else Err Unreachable

-- ---- and back

-- the number of these bytes, the least first, where all are numbers
abbrev pub number_of : List Byte → Option ℕ
number_of [] = Some 0
number_of (Num b ∷ rest) = option_map (λ n. b + 256 * n) (number_of rest)
number_of (Unset ∷ rest) = None
number_of (Ptr part p ∷ rest) = None

abbrev pub has_unset : List Byte → Bool
has_unset [] = false
has_unset (Unset ∷ rest) = true
has_unset (Num b ∷ rest) = has_unset rest
has_unset (Ptr part p ∷ rest) = has_unset rest

-- why the bytes are no value: one is unset, or they are of another kind
abbrev pub misread : List Byte → Trap
misread bytes = if has_unset bytes then UnsetByte else ByteKind

-- part k of the pointer
abbrev pub is_part : ℕ → Address → Byte → Bool
is_part k p Unset = false
is_part k p (Num b) = false
is_part k p (Ptr part q) = part == k && same_pointer q p

-- all parts of the pointer from part k on
abbrev pub are_parts : ℕ → Address → List Byte → Bool
are_parts k p [] = k == 8
are_parts k p (b ∷ rest) = is_part k p b && are_parts (k + 1) p rest

abbrev pub is_zero : Byte → Bool
is_zero Unset = false
is_zero (Num b) = b == 0
is_zero (Ptr part q) = false

-- the zeros of null from byte k on
abbrev pub are_zeros : ℕ → List Byte → Bool
are_zeros k [] = k == 8
are_zeros k (b ∷ rest) = is_zero b && are_zeros (k + 1) rest

-- the pointer of these bytes
abbrev pub pointer_of : List Byte → Option Address
pointer_of [] = None
pointer_of (Unset ∷ rest) = None
pointer_of (Num b ∷ rest) = if are_zeros 0 (Num b ∷ rest) then Some Null else None
pointer_of (Ptr part p ∷ rest) = if are_parts 0 p (Ptr part p ∷ rest) then Some p else None

abbrev pub number_in : ℕ → List Byte → Option ℕ → Result Value Trap
number_in width bytes (Some n) = if nat_lt n (2 ^ width) then Ok (Int (of_bits width n)) else Err ByteKind
number_in width bytes None = Err (misread bytes)

abbrev pub pointer_in : List Byte → Option Address → Result Value Trap
pointer_in bytes (Some p) = Ok (Pointer p)
pointer_in bytes None = Err (misread bytes)

-- the value of the type that these bytes are
abbrev pub loaded : Scalar → List Byte → Result Value Trap
loaded (scalar.Int width) bytes = number_in width bytes (number_of bytes)
loaded scalar.Pointer bytes = pointer_in bytes (pointer_of bytes)
