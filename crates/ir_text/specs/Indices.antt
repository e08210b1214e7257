-- The indices of a constant address: each goes into the type that the one before it leads to.
use Rattle.std.specs.Prelude.{ℕ, Bool, nat_eq, if◌then◌else◌, Option, Some, None, is_some, option_and_then, Result, Ok, Err, codes, ◌||◌}
use Rattle.ir_lex.specs.declared.token.Cause.{Cause}
use Rattle.ir_lex.specs.declared.token.Cause.TheVariants as causes
use Rattle.ir_tree.specs.Layouts.{field_type}
use Rattle.ir_tree.specs.Trees.{TypeV, ArrayV, StructV, NamedV, TypesV, ConstantV, IntegerC, ZeroC}
use Rattle.ir_text.specs.Tokens.{TokenV, is_word}
use Rattle.ir_text.specs.Reading.{Meaning}
use Rattle.ir_text.specs.Leaves.{tested}
use Rattle.ir_text.specs.Types.{Known, register_type}
use Rattle.ir_text.specs.Constants.{width_of, simple_constant}

-- passed over before the parenthesis
abbrev pub is_address_word : TokenV → Bool
is_address_word t = is_word (codes "inbounds") t || is_word (codes "nuw") t || is_word (codes "nusw") t

abbrev pub address_word : Meaning (Unit {0})
address_word t = tested (is_address_word t) causes.Operand

-- ---- types of one token

-- no type of a register is an operand here
abbrev pub no_type : {A : Type 0} → Result TypeV Cause → Result A Cause
no_type (Ok of) = Err causes.Operand
no_type (Err cause) = Err cause

-- ptr: another type of a register is no operand
abbrev pub pointer_type : Meaning (Unit {0})
pointer_type t = if is_word (codes "ptr") t then Ok tt else no_type (register_type t)

-- iN: ptr is no operand
abbrev pub integer_type : Meaning TypeV
integer_type t = if is_word (codes "ptr") t then Err causes.Operand else register_type t

abbrev pub of_32_bits : Result TypeV Cause → Result TypeV Cause
of_32_bits (Ok of) = if nat_eq (width_of of) 32 then Ok of else Err causes.Operand
of_32_bits (Err cause) = Err cause

-- i32: another type of a register is no operand
abbrev pub word_of_32 : Meaning TypeV
word_of_32 t = of_32_bits (register_type t)

-- ---- fields

-- the number of a field: a constant of 32 bits
abbrev pub field_number : ConstantV → Option ℕ
field_number (IntegerC n) = if nat_eq n.width 32 then Some n.bits else None
field_number ZeroC = Some 0
field_number other = None

abbrev pub one_of_fields : TypesV → ConstantV → Option ℕ → Result ConstantV Cause
one_of_fields fields c None = Err causes.Operand
one_of_fields fields c (Some i) = if is_some (field_type fields i) then Ok c else Err causes.Number

abbrev pub field_by : TypesV → Result ConstantV Cause → Result ConstantV Cause
field_by fields (Ok c) = one_of_fields fields c (field_number c)
field_by fields (Err cause) = Err cause

-- a constant of one token that names a field: one that is no number is no operand, and a number is one of the fields'
abbrev pub field : TypesV → Meaning ConstantV
field fields t = field_by fields (simple_constant 32 t)

-- ---- where an index leads

-- a type, or the body that the whole text gives it, unless there is a fault in that
abbrev pub opened : Known → TypeV → Option TypeV
opened known (NamedV name) = option_and_then (λ b. b.of) (known name)
opened known of = Some of

-- what an index may be
pub data Entry : Type 0 where
  -- an integer of any width, which leads to elements of the type
  Counted : Option TypeV → Entry
  -- the number of a field
  Field : TypesV → Entry
  -- nothing: the type is no aggregate
  Never : Entry

abbrev pub entered : Option TypeV → Entry
entered None = Counted None
entered (Some (ArrayV count of)) = Counted (Some of)
entered (Some (StructV packed fields)) = Field fields
entered (Some other) = Never

-- what an index into a type may be; where a body is faulty the fault is met there, and any integer will do
abbrev pub entry_of : Known → Option TypeV → Entry
entry_of known into = entered (option_and_then (opened known) into)

-- the type that the index leads to
abbrev pub led_to : Entry → ConstantV → Option TypeV
led_to (Counted of) c = of
led_to (Field fields) c = option_and_then (field_type fields) (field_number c)
led_to Never c = None
