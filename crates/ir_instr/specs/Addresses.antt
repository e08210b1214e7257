-- `getelementptr`, behind its word: each index goes into the type that the one before it leads to.
use Rattle.std.specs.Prelude.{ℕ, nat_eq, if◌then◌else◌, List, [], ◌∷◌, Option, Some, None, is_some, option_and_then, Result, Ok, Err, codes}
use Rattle.pv_base.specs.declared.name.Name.{Name}
use Rattle.ir_lex.specs.declared.token.Cause.{Cause}
use Rattle.ir_lex.specs.declared.token.Cause.TheVariants as causes
use Rattle.ir_tree.specs.declared.instruction.Operand.{Operand}
use Rattle.ir_tree.specs.declared.instruction.Operand.TheVariants as operand
use Rattle.ir_tree.specs.declared.instruction.Argument.{Argument}
use Rattle.ir_tree.specs.declared.instruction.Instruction.{Instruction}
use Rattle.ir_tree.specs.declared.instruction.Instruction.TheVariants as instruction
use Rattle.ir_tree.specs.Layouts.{field_type}
use Rattle.ir_tree.specs.Trees.{TypeV, IntV, ArrayV, StructV, NamedV, TypesV, ConstantV, IntegerC, ZeroC}
use Rattle.ir_text.specs.declared.fault.Fault.TheVariants.{Ended}
use Rattle.ir_text.specs.Tokens.{TokenV, among, is_mark}
use Rattle.ir_text.specs.Operands.{operand_at}
use Rattle.ir_text.specs.Reading.{Outcome, Reader, ◌>>=◌, wrong, Meaning, token_by}
use Rattle.ir_text.specs.Choice.{choose}
use Rattle.ir_text.specs.Leaves.{mark_at}
use Rattle.ir_text.specs.Repeated.{repeated_under}
use Rattle.ir_text.specs.Trailing.{passed_tail, kept}
use Rattle.ir_text.specs.Types.{Known, register_type}
use Rattle.ir_text.specs.MemoryTypes.{memory_type_at}
use Rattle.ir_instr.specs.Parts.{fixed_type, pointer_at, integer_argument_at}
use Rattle.ir_instr.specs.Flags.{words_of}
use Rattle.ir_instr.specs.Memory.{begins_tail}

-- passed over behind the word, but for inbounds
abbrev pub address_words : List (List ℕ)
address_words = codes "inbounds" ∷ codes "nuw" ∷ codes "nusw" ∷ []

-- where an index stands
pub data Into : Type 0 where
  -- it counts whole values of the type
  Whole : TypeV → Into
  -- it goes into the type
  Inside : TypeV → Into
  -- it goes into a named type with a fault in its body, which is met there
  Faulty : Into

-- a type, or the body that the whole text gives it
abbrev pub opened : Known → TypeV → Option TypeV
opened known (NamedV name) = option_and_then (λ b. b.of) (known name)
opened known of = Some of

-- the number of a field: a constant of 32 bits
abbrev pub constant_field : ConstantV → Option ℕ
constant_field (IntegerC n) = if nat_eq n.width 32 then Some n.bits else None
constant_field ZeroC = Some 0
constant_field other = None

abbrev pub field_number : Operand Name ConstantV → Option ℕ
field_number (operand.Constant value) = constant_field value
field_number (operand.Register name) = None

-- the type of the field that an index names
abbrev pub field_of : TypesV → Operand Name ConstantV → Option TypeV
field_of fields value = option_and_then (field_type fields) (field_number value)

abbrev pub inside_or_faulty : Option TypeV → Into
inside_or_faulty (Some of) = Inside of
inside_or_faulty None = Faulty

-- where the next index stands
abbrev pub led_into : Option TypeV → Operand Name ConstantV → Into
led_into (Some (ArrayV count of)) value = Inside of
led_into (Some (StructV packed fields)) value = inside_or_faulty (field_of fields value)
led_into other value = Faulty

abbrev pub next_into : Known → Into → Argument Name TypeV ConstantV → Into
next_into known (Whole of) index = Inside of
next_into known (Inside of) index = led_into (opened known of) index.value
next_into known Faulty index = Faulty

abbrev pub no_index_by : Result TypeV Cause → Result (Argument Name TypeV ConstantV) Cause
no_index_by (Ok of) = Err causes.Operand
no_index_by (Err cause) = Err cause

-- no index goes into a type that is no aggregate
abbrev pub no_index : Meaning (Argument Name TypeV ConstantV)
no_index t = no_index_by (register_type t)

-- an operand that names a field: one that is no constant number is no operand, and a number is one of the fields'
abbrev pub field_checked : TypesV → TokenV → Operand Name ConstantV × List TokenV → Option ℕ → Outcome (Operand Name ConstantV)
field_checked fields t x None = wrong t causes.Operand
field_checked fields t x (Some i) = if is_some (field_type fields i) then Ok x else wrong t causes.Number

module _ (known : Known) where
  unfoldable pub field_value_at : TypesV → Reader (Operand Name ConstantV)
  field_value_at fields [] = Err Ended
  field_value_at fields (t ∷ rest) = operand_at known (IntV 32) (t ∷ rest) >>= λ x. field_checked fields t x (field_number x.0)

  -- i32 c, which names a field
  abbrev pub field_index_at : TypesV → Reader (Argument Name TypeV ConstantV)
  field_index_at fields ts = do
    type ← token_by (fixed_type (IntV 32)) ts
    value ← field_value_at fields type.1
    Ok (record { of = IntV 32; value = value.0 }, value.1)

  abbrev pub index_into : Option TypeV → Reader (Argument Name TypeV ConstantV)
  index_into None = integer_argument_at known
  index_into (Some (ArrayV count of)) = integer_argument_at known
  index_into (Some (StructV packed fields)) = field_index_at fields
  index_into (Some other) = token_by no_index

  -- an index
  abbrev pub index_at : Into → Reader (Argument Name TypeV ConstantV)
  index_at (Whole of) = integer_argument_at known
  index_at (Inside of) = index_into (opened known of)
  index_at Faulty = integer_argument_at known

  abbrev pub some_index_at : Into → Reader (Option (Argument Name TypeV ConstantV))
  some_index_at into ts = index_at into ts >>= λ index. Ok (Some index.0, index.1)

  -- a further index, or behind all of them what is passed over
  abbrev pub index_or_tail : Option Into → Reader (Option (Argument Name TypeV ConstantV))
  index_or_tail (Some into) = choose begins_tail passed_tail (some_index_at into)
  index_or_tail None = passed_tail

  abbrev pub behind_comma : Option Into → Reader (Option (Argument Name TypeV ConstantV))
  behind_comma into ts = mark_at 44 ts >>= λ comma. index_or_tail into comma.1

  -- once something was passed over, no index follows
  abbrev pub still_into : Option Into → Option (Argument Name TypeV ConstantV) → Option Into
  still_into (Some into) (Some index) = Some (next_into known into index)
  still_into into other = None

  -- one index or more behind the pointer, and what is passed over behind them
  abbrev pub indices_at : TypeV → Reader (List (Argument Name TypeV ConstantV))
  indices_at of ts = do
    comma ← mark_at 44 ts
    first ← index_at (Whole of) comma.1
    others ← repeated_under (is_mark 44) behind_comma still_into (Some (Inside of)) first.1
    Ok (first.0 ∷ kept others.0, others.1)

  -- inbounds T, ptr P, iN I, ..
  abbrev pub address_at : Name → Reader (Instruction Name TypeV ConstantV)
  address_at to ts = do
    words ← words_of address_words ts
    of ← memory_type_at known words.1
    comma ← mark_at 44 of.1
    base ← pointer_at known comma.1
    indices ← indices_at of.0 base.1
    Ok (instruction.Address to (among words.0 (codes "inbounds")) of.0 base.0 indices.0, indices.1)
