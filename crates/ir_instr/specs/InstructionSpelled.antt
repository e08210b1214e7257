-- How instructions are spelled, a form each.
use Rattle.std.specs.Prelude.{◌≡◌, ℕ, Bool, true, false, List, [], ◌∷◌, Option, Some, None, IsSome, codes}
use Rattle.std.proofs.Common.{◌⊎◌}
use Rattle.pv_base.specs.declared.name.Name.{Name}
use Rattle.int_num.specs.declared.ops.Flags.{Flags}
use Rattle.ir_tree.specs.declared.instruction.Operand.{Operand}
use Rattle.ir_tree.specs.declared.instruction.Argument.{Argument}
use Rattle.ir_tree.specs.declared.instruction.Arm.{Arm}
use Rattle.ir_tree.specs.declared.instruction.Case.{Case}
use Rattle.ir_tree.specs.declared.instruction.Callee.{Callee}
use Rattle.ir_tree.specs.declared.instruction.Instruction.{Instruction}
use Rattle.ir_tree.specs.declared.instruction.Instruction.TheVariants as instruction
use Rattle.ir_tree.specs.Trees.{TypeV, IntV, PtrV, ArrayV, StructV, TypesV, ConstantV}
use Rattle.ir_text.specs.Tokens.{TokenV, among}
use Rattle.ir_text.specs.Choice.{Opens}
use Rattle.ir_text.specs.Spelled.{one_token}
use Rattle.ir_text.specs.Leaves.{local}
use Rattle.ir_text.specs.Lists.{closed_list}
use Rattle.ir_text.specs.Operands.{a_constant, an_operand}
use Rattle.ir_text.specs.Constants.{width_of}
use Rattle.ir_text.specs.Passed.{is_any_word, some_words, stops}
use Rattle.ir_text.specs.Repeated.{each, each_under}
use Rattle.ir_text.specs.Tails.{some_tails}
use Rattle.ir_text.specs.Types.{Known, register_type}
use Rattle.ir_text.specs.TypeSpelled.{◌▸◌, a_mark, a_word, a_type}
use Rattle.ir_instr.specs.Words.{worded, operations, casts, predicates, opcodes}
use Rattle.ir_text.specs.MemoryTypes.{has_layout}
use Rattle.ir_instr.specs.Parts.{fixed_type, integer_type, stored_type}
use Rattle.ir_instr.specs.Flags.{one_of, flags_of, flags_for, cast_flags_for}
use Rattle.ir_instr.specs.Comparing.{comparing_words}
use Rattle.ir_instr.specs.Addresses.{Into, Whole, Inside, Faulty, opened, field_of, next_into, address_words}
use Rattle.ir_instr.specs.Calls.{begins_value, points, called, answer_type}
use Rattle.ir_instr.specs.Control.{bits_of, met_before, with_case}
use Rattle.ir_instr.specs.Instructions.{defined_name}

-- any of these words in any order, and what they say
pub record Says {A : Type 0} (words : List (List ℕ)) (meaning : List (List ℕ) → A) (a : A) (ws : List TokenV) : Type 0 where
  pub written : List (List ℕ)
  pub spelled : each (one_token (one_of words)) written ws
  pub is : meaning written ≡ a

abbrev pub some_flags : List (List ℕ) → Flags → List TokenV → Type 0
some_flags words flags = Says words flags_of flags

abbrev pub nothing_said : List (List ℕ) → Unit {0}
nothing_said written = tt

-- words of which nothing is kept
abbrev pub passed_words : List (List ℕ) → List TokenV → Type 0
passed_words words = Says words nothing_said tt

-- words before `call`, of which the first begins no instruction
abbrev pub some_markers : List TokenV → Type 0
some_markers ws = (ws ≡ []) ⊎ (Opens is_any_word ws × some_words (stops opcodes false) tt ws)

-- label %name
abbrev pub a_target : Name → List TokenV → Type 0
a_target name = a_word (codes "label") ▸ one_token local name

-- a type with a layout
pub record InMemory (known : Known) (of : TypeV) (ws : List TokenV) : Type 0 where
  pub spelled : a_type known of ws
  pub laid_out : has_layout known of ≡ true

-- nothing, or a written function type
abbrev pub a_function_type : Bool → List TokenV → Type 0
a_function_type false ws = ws ≡ []
a_function_type true ws = (a_mark 40 ▸ a_word (codes "ptr") ▸ a_mark 44 ▸ one_token points tt ▸ a_mark 41) ws

module _ (known : Known) where
  -- ptr P
  abbrev pub a_pointer : Operand Name ConstantV → List TokenV → Type 0
  a_pointer value = one_token (fixed_type PtrV) tt ▸ an_operand known PtrV value

  -- iN A
  abbrev pub an_integer_argument : Argument Name TypeV ConstantV → List TokenV → Type 0
  an_integer_argument a = one_token integer_type a.of ▸ an_operand known a.of a.value

  -- T A, with attributes between them
  abbrev pub an_argument : Argument Name TypeV ConstantV → List TokenV → Type 0
  an_argument a = one_token register_type a.of ▸ some_words begins_value tt ▸ an_operand known a.of a.value

  -- [ A, %from ]
  abbrev pub an_arm : TypeV → Arm Name ConstantV → List TokenV → Type 0
  an_arm of a = a_mark 91 ▸ an_operand known of a.value ▸ a_mark 44 ▸ one_token local a.from ▸ a_mark 93

  -- one arm or more
  abbrev pub some_arms : TypeV → List (Arm Name ConstantV) → List TokenV → Type 0
  some_arms of [] ws = ⊥
  some_arms of (first ∷ others) ws = (an_arm of first ▸ each (λ a. a_mark 44 ▸ an_arm of a) others) ws

  -- iN c, label %to, whose bits are none of those before
  pub record ACase (of : TypeV) (earlier : List ℕ) (c : Case Name ConstantV) (ws : List TokenV) : Type 0 where
    pub spelled : (one_token (fixed_type of) tt ▸ a_constant known (width_of of) c.value ▸ a_mark 44 ▸ a_target c.to) ws
    pub fresh : met_before earlier (bits_of c.value) ≡ false

  -- i32 c, which names one of the fields
  pub record AField (fields : TypesV) (a : Argument Name TypeV ConstantV) (ws : List TokenV) : Type 0 where
    pub spelled : (one_token (fixed_type (IntV 32)) tt ▸ an_operand known (IntV 32) a.value) ws
    pub of : a.of ≡ IntV 32
    pub names : IsSome (field_of fields a.value)

  abbrev pub an_index_into : Option TypeV → Argument Name TypeV ConstantV → List TokenV → Type 0
  an_index_into None a ws = an_integer_argument a ws
  an_index_into (Some (ArrayV count of)) a ws = an_integer_argument a ws
  an_index_into (Some (StructV packed fields)) a ws = AField fields a ws
  an_index_into (Some other) a ws = ⊥

  -- an index into a type
  abbrev pub an_index : Into → Argument Name TypeV ConstantV → List TokenV → Type 0
  an_index (Whole of) a ws = an_integer_argument a ws
  an_index (Inside of) a ws = an_index_into (opened known of) a ws
  an_index Faulty a ws = an_integer_argument a ws

  -- one index or more, each behind a comma
  abbrev pub some_indices : TypeV → List (Argument Name TypeV ConstantV) → List TokenV → Type 0
  some_indices of [] ws = ⊥
  some_indices of (first ∷ others) ws = (a_mark 44 ▸ an_index (Whole of) first ▸ each_under (λ into a. a_mark 44 ▸ an_index into a) (next_into known) (Inside of) others) ws

  -- nothing, or a count behind a comma
  abbrev pub a_count : Option (Argument Name TypeV ConstantV) → List TokenV → Type 0
  a_count None ws = ws ≡ []
  a_count (Some count) ws = (a_mark 44 ▸ an_integer_argument count) ws

  -- void, or T A
  abbrev pub a_returned : Option (Argument Name TypeV ConstantV) → List TokenV → Type 0
  a_returned None ws = a_word (codes "void") ws
  a_returned (Some a) ws = (one_token register_type a.of ▸ an_operand known a.of a.value) ws

  abbrev pub a_call : Option Name → TypeV → Bool → Callee Name → List (Argument Name TypeV ConstantV) → List TokenV → Type 0
  a_call to of variadic what arguments =
      some_markers ▸ a_word (codes "call") ▸ some_words (stops [] true) tt ▸ one_token (answer_type to) of ▸ a_function_type variadic ▸ one_token (called variadic) what
      ▸ a_mark 40 ▸ closed_list 41 an_argument arguments ▸ some_words (stops opcodes false) tt ▸ some_tails tt

  module _ (next : ℕ) (defined : List Name) where
    -- %r =
    abbrev pub a_result : Name → List TokenV → Type 0
    a_result to = one_token (defined_name next defined) to ▸ a_mark 61

    -- an instruction of a function whose counter stands at this number, and that has defined these names
    abbrev pub an_instruction : Instruction Name TypeV ConstantV → List TokenV → Type 0
    an_instruction (instruction.Binary to operation flags of left right) =
        a_result to ▸ one_token (worded operations) operation ▸ some_flags (flags_for operation) flags ▸ one_token integer_type of ▸ an_operand known of left ▸ a_mark 44 ▸ an_operand known of right ▸ some_tails tt
    an_instruction (instruction.Cast to operation flags of value target) =
        a_result to ▸ one_token (worded casts) operation ▸ some_flags (cast_flags_for operation) flags ▸ one_token integer_type of ▸ an_operand known of value ▸ a_word (codes "to") ▸ one_token integer_type target ▸ some_tails tt
    an_instruction (instruction.Freeze to of value) = a_result to ▸ a_word (codes "freeze") ▸ one_token register_type of ▸ an_operand known of value ▸ some_tails tt
    an_instruction (instruction.Compare to pred of left right) =
        a_result to ▸ a_word (codes "icmp") ▸ passed_words comparing_words ▸ one_token (worded predicates) pred ▸ one_token register_type of ▸ an_operand known of left ▸ a_mark 44 ▸ an_operand known of right ▸ some_tails tt
    an_instruction (instruction.Select to condition of on_true on_false) =
        a_result to ▸ a_word (codes "select") ▸ one_token (fixed_type (IntV 1)) tt ▸ an_operand known (IntV 1) condition ▸ a_mark 44
        ▸ one_token register_type of ▸ an_operand known of on_true ▸ a_mark 44 ▸ one_token (fixed_type of) tt ▸ an_operand known of on_false ▸ some_tails tt
    an_instruction (instruction.Phi to of arms) = a_result to ▸ a_word (codes "phi") ▸ one_token register_type of ▸ some_arms of arms ▸ some_tails tt
    an_instruction (instruction.Alloca to of count) = a_result to ▸ a_word (codes "alloca") ▸ InMemory known of ▸ a_count count ▸ some_tails tt
    an_instruction (instruction.Load to of pointer) = a_result to ▸ a_word (codes "load") ▸ one_token stored_type of ▸ a_mark 44 ▸ a_pointer pointer ▸ some_tails tt
    an_instruction (instruction.Store of value pointer) = a_word (codes "store") ▸ one_token stored_type of ▸ an_operand known of value ▸ a_mark 44 ▸ a_pointer pointer ▸ some_tails tt
    an_instruction (instruction.Address to inbounds of base indices) =
        a_result to ▸ a_word (codes "getelementptr") ▸ Says address_words (λ written. among written (codes "inbounds")) inbounds ▸ InMemory known of ▸ a_mark 44 ▸ a_pointer base ▸ some_indices of indices ▸ some_tails tt
    an_instruction (instruction.Call (Some to) of variadic what arguments) = a_result to ▸ a_call (Some to) of variadic what arguments
    an_instruction (instruction.Call None of variadic what arguments) = a_call None of variadic what arguments
    an_instruction (instruction.Return value) = a_word (codes "ret") ▸ a_returned value ▸ some_tails tt
    an_instruction (instruction.Jump target) = a_word (codes "br") ▸ a_target target ▸ some_tails tt
    an_instruction (instruction.Branch condition on_true on_false) =
        a_word (codes "br") ▸ one_token (fixed_type (IntV 1)) tt ▸ an_operand known (IntV 1) condition ▸ a_mark 44 ▸ a_target on_true ▸ a_mark 44 ▸ a_target on_false ▸ some_tails tt
    an_instruction (instruction.Switch of value default cases) =
        a_word (codes "switch") ▸ one_token integer_type of ▸ an_operand known of value ▸ a_mark 44 ▸ a_target default
        ▸ a_mark 91 ▸ each_under (ACase of) with_case [] cases ▸ a_mark 93 ▸ some_tails tt
    an_instruction instruction.Unreachable = a_word (codes "unreachable") ▸ some_tails tt
