-- Each instruction of a module with its names resolved. None where it breaks a rule of modules: a name that is not defined, a
-- type that no register has, a constant that no register holds, or a size that is missing.
use Rattle.std.specs.Prelude.{ℕ, ◌-◌, ◌*◌, ◌^◌, min, map, List, [], fold, Option, Some, None, option_map, slice_index_or, unwrap_or, if◌then◌else◌}
use Rattle.pv_base.specs.declared.name.Name.{Name}
use Rattle.ir_tree.specs.declared.instruction.Operand.TheVariants as named
use Rattle.ir_tree.specs.declared.instruction.Callee.TheVariants as callee
use Rattle.ir_tree.specs.declared.instruction.Instruction.TheVariants as tree
use Rattle.ir_tree.specs.Trees.{TypeV, ConstantV}
use Rattle.ir_rules.specs.Seen.{ModuleV, FunctionV, InstructionV, ArgumentV, OperandV, CaseV, CalleeV}
use Rattle.ir_code.specs.declared.op.Scalar.{Scalar}
use Rattle.ir_code.specs.declared.op.Scalar.TheVariants as scalar
use Rattle.ir_code.specs.declared.op.Operand.TheVariants as operand
use Rattle.ir_code.specs.declared.op.Op.{Op}
use Rattle.ir_code.specs.declared.op.Op.TheVariants as op
use Rattle.ir_code.specs.declared.lookups.Linkage.{Linkage}
use Rattle.ir_code.specs.declared.lookups.Linkage.TheVariants as linkage
use Rattle.ir_code.specs.Options.{◌>>=◌, every}
use Rattle.ir_code.specs.Cases.{with_case}
use Rattle.ir_code.specs.Strides.{strides}
use Rattle.ir_code.specs.Tables.{type_of, external_named, linkage_of_external}
use Rattle.ir_code.specs.Families.{width_of, bits_of, stored, call_of}
use Rattle.code_laws.specs.Meanings.{place_named, scalar_type, type_size, constant_value, operand_value, argument_value}

-- a function is defined, or one that the machine knows, or neither
abbrev pub linkage_in : FunctionV → Linkage
linkage_in f = if f.declared then linkage_of_external (external_named f.name) else linkage.Defined

-- the register of a call's result, where it has one
abbrev pub result_place : List (Option Name) → Option Name → Option (Option ℕ)
result_place registers None = Some None
result_place registers (Some x) = option_map Some (place_named registers x)

module _ (v : ModuleV) where
  -- the bits of a constant integer
  abbrev pub constant_bits : Scalar → ConstantV → Option ℕ
  constant_bits of c = do
    n ← constant_value v (type_of of) c
    bits_of n

  abbrev pub count_bits : TypeV → OperandV → Option ℕ
  count_bits of (named.Register x) = None
  count_bits of (named.Constant c) = do
    s ← scalar_type of
    constant_bits s c

  -- how many elements an `alloca` makes: a constant, read as unsigned
  abbrev pub element_count : Option ArgumentV → Option ℕ
  element_count None = Some 1
  element_count (Some a) = count_bits a.of a.value

  -- a case's bits and edge, at a type
  abbrev pub case_in : (Name → Option ℕ) → Scalar → CaseV → Option (ℕ × ℕ)
  case_in exit of c = do
    n ← constant_value v (type_of of) c.value
    bits ← bits_of n
    edge ← exit c.to
    Some (bits, edge)

  abbrev pub cases_in : (Name → Option ℕ) → Scalar → List CaseV → Option (List (ℕ × ℕ))
  cases_in exit of cases = option_map (fold (λ done c. with_case done c.0 c.1) []) (every (case_in exit of) cases)

module _ (v : ModuleV) (registers : List (Option Name)) where
  -- a call of a function by its name, or through a register at the type that it is written with
  abbrev pub called_op : Option Name → TypeV → CalleeV → List ArgumentV → Option Op
  called_op to of (callee.Function x) arguments = do
    r ← result_place registers to
    k ← place_named (map (λ f. Some f.name) v.functions) x
    values ← every (argument_value v registers) arguments
    call_of r values k (slice_index_or (map linkage_in v.functions) k linkage.Unknown)
  called_op to of (callee.Pointer x) arguments = do
    r ← result_place registers to
    p ← place_named registers x
    values ← every (argument_value v registers) arguments
    parameters ← every (λ a. scalar_type a.of) arguments
    Some (op.CallPointer r (operand.Register p) (scalar_type of) parameters values)

  abbrev pub return_op : Option ArgumentV → Option Op
  return_op None = Some (op.Return None)
  return_op (Some a) = option_map (λ value. op.Return (Some value)) (argument_value v registers a)

  -- an instruction that is no phi of those that its block begins with, over the edge of each label
  unfoldable pub instruction_op : (Name → Option ℕ) → InstructionV → Option Op
  instruction_op exit (tree.Binary to what flags of left right) = do
    r ← place_named registers to
    s ← scalar_type of
    a ← operand_value v registers s left
    b ← operand_value v registers s right
    Some (op.Binary r what flags a b)
  instruction_op exit (tree.Cast to what flags of value target) = do
    r ← place_named registers to
    s ← scalar_type of
    a ← operand_value v registers s value
    u ← scalar_type target
    w ← width_of u
    Some (op.Cast r what flags a w)
  instruction_op exit (tree.Freeze to of value) = do
    r ← place_named registers to
    s ← scalar_type of
    a ← operand_value v registers s value
    Some (op.Freeze r a)
  instruction_op exit (tree.Compare to pred of left right) = do
    r ← place_named registers to
    s ← scalar_type of
    a ← operand_value v registers s left
    b ← operand_value v registers s right
    Some (op.Compare r pred a b)
  instruction_op exit (tree.Select to condition of on_true on_false) = do
    r ← place_named registers to
    s ← scalar_type of
    c ← operand_value v registers (scalar.Int 1) condition
    a ← operand_value v registers s on_true
    b ← operand_value v registers s on_false
    Some (op.Select r c a b)
  instruction_op exit (tree.Phi to of arms) = None
  instruction_op exit (tree.Alloca to of count) = do
    r ← place_named registers to
    size ← type_size v of
    n ← element_count v count
    Some (op.Alloca r (min (size * n) (2 ^ 64 - 1)))
  instruction_op exit (tree.Load to of pointer) = do
    r ← place_named registers to
    s ← scalar_type of
    u ← stored s
    p ← operand_value v registers scalar.Pointer pointer
    Some (op.Load r u p)
  instruction_op exit (tree.Store of value pointer) = do
    s ← scalar_type of
    u ← stored s
    a ← operand_value v registers u value
    p ← operand_value v registers scalar.Pointer pointer
    Some (op.Store u a p)
  instruction_op exit (tree.Address to inbounds of base indices) = do
    r ← place_named registers to
    size ← type_size v of
    p ← operand_value v registers scalar.Pointer base
    values ← every (argument_value v registers) indices
    steps ← strides v.types of values
    Some (op.Address r inbounds p steps)
  instruction_op exit (tree.Call to of variadic what arguments) = called_op to of what arguments
  instruction_op exit (tree.Return value) = return_op value
  instruction_op exit (tree.Jump target) = option_map op.Jump (exit target)
  instruction_op exit (tree.Branch condition on_true on_false) = do
    c ← operand_value v registers (scalar.Int 1) condition
    a ← exit on_true
    b ← exit on_false
    Some (op.Branch c a b)
  instruction_op exit (tree.Switch of value default cases) = do
    s ← scalar_type of
    a ← operand_value v registers s value
    d ← exit default
    all ← cases_in v exit s cases
    Some (op.Switch a d all)
  instruction_op exit tree.Unreachable = Some op.Unreachable

  -- the same, and an instruction that stops the machine in place of one that breaks a rule
  abbrev pub op_in : (Name → Option ℕ) → InstructionV → Op
  op_in exit i = unwrap_or (instruction_op exit i) op.Stuck
