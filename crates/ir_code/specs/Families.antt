-- Each instruction with its names resolved, by families. None where it breaks a rule of modules: a name that is not defined, a
-- type that no register has, a constant that no register holds, or a size that is missing.
use Rattle.std.specs.Prelude.{ℕ, ◌-◌, ◌*◌, ◌^◌, ◌||◌, min, nat_eq, List, [], fold, Bool, true, Option, Some, None, option_map, slice_index_or, if◌then◌else◌}
use Rattle.int_num.specs.declared.ops.BinOp.{BinOp}
use Rattle.int_num.specs.declared.ops.CastOp.{CastOp}
use Rattle.int_num.specs.declared.ops.Flags.{Flags}
use Rattle.int_num.specs.declared.ops.Pred.{Pred}
use Rattle.ir_tree.specs.declared.instruction.Operand.{Operand as Named}
use Rattle.ir_tree.specs.declared.instruction.Operand.TheVariants as named
use Rattle.ir_tree.specs.declared.instruction.Argument.{Argument}
use Rattle.ir_tree.specs.declared.instruction.Case.{Case}
use Rattle.ir_tree.specs.declared.instruction.Callee.{Callee}
use Rattle.ir_tree.specs.declared.instruction.Callee.TheVariants as callee
use Rattle.ir_code.specs.declared.op.Scalar.{Scalar}
use Rattle.ir_code.specs.declared.op.Scalar.TheVariants as scalar
use Rattle.ir_code.specs.declared.op.Fixed.{Fixed}
use Rattle.ir_code.specs.declared.op.Fixed.TheVariants as fixed
use Rattle.ir_code.specs.declared.op.Operand.{Operand}
use Rattle.ir_code.specs.declared.op.Operand.TheVariants as operand
use Rattle.ir_code.specs.declared.op.Op.{Op}
use Rattle.ir_code.specs.declared.op.Op.TheVariants as op
use Rattle.ir_code.specs.declared.lookups.Linkage.{Linkage}
use Rattle.ir_code.specs.declared.lookups.Linkage.TheVariants as linkage
use Rattle.ir_code.specs.Options.{◌>>=◌, every}
use Rattle.ir_code.specs.Places.{place_of}
use Rattle.ir_code.specs.Cases.{with_case}
use Rattle.ir_code.specs.Tables.{Tables, scalar_at, size_at, fixed_at}

-- an integer's width
abbrev pub width_of : Scalar → Option ℕ
width_of (scalar.Int width) = Some width
width_of scalar.Pointer = None

-- the bits of an integer
abbrev pub bits_of : Fixed → Option ℕ
bits_of (fixed.Int n) = Some n.bits
bits_of fixed.Null = None
bits_of (fixed.Global index offset) = None
bits_of (fixed.Function index) = None
bits_of fixed.Nowhere = None

-- a type whose values memory holds
abbrev pub is_stored : Scalar → Bool
is_stored (scalar.Int width) = nat_eq width 1 || nat_eq width 8 || nat_eq width 16 || nat_eq width 32 || nat_eq width 64
is_stored scalar.Pointer = true

-- the same type, where memory holds its values
abbrev pub stored : Scalar → Option Scalar
stored of = if is_stored of then Some of else None

-- the function at a place is called by its number, or as an external
abbrev pub call_of : Option ℕ → List Operand → ℕ → Linkage → Option Op
call_of to arguments function linkage.Defined = Some (op.Call to function arguments)
call_of to arguments function (linkage.External e) = Some (op.CallExternal to e arguments)
call_of to arguments function linkage.Unknown = None

abbrev pub constant_count : Tables → ℕ → Named ℕ ℕ → Option ℕ
constant_count t of (named.Register x) = None
constant_count t of (named.Constant k) = do
  s ← scalar_at t of
  n ← fixed_at t s k
  bits_of n

-- how many elements an `alloca` makes: a constant, read as unsigned
abbrev pub count_of : Tables → Option (Argument ℕ ℕ ℕ) → Option ℕ
count_of t None = Some 1
count_of t (Some a) = constant_count t a.of a.value

-- the types of arguments
abbrev pub parameters_at : Tables → List (Argument ℕ ℕ ℕ) → Option (List Scalar)
parameters_at t arguments = every (λ a. scalar_at t a.of) arguments

-- a jump, over the edge of each label that the function has
abbrev pub jump : (ℕ → Option ℕ) → ℕ → Option Op
jump exit x = option_map op.Jump (exit x)

-- the register of a call's result, where it has one
abbrev pub result_register : List (Option ℕ) → Option ℕ → Option (Option ℕ)
result_register registers None = Some None
result_register registers (Some x) = option_map Some (place_of registers x)

-- a case's bits and edge, at a type
abbrev pub case_at : Tables → (ℕ → Option ℕ) → Scalar → Case ℕ ℕ → Option (ℕ × ℕ)
case_at t exit of c = do
  n ← fixed_at t of c.value
  bits ← bits_of n
  edge ← exit c.to
  Some (bits, edge)

abbrev pub cases_at : Tables → (ℕ → Option ℕ) → Scalar → List (Case ℕ ℕ) → Option (List (ℕ × ℕ))
cases_at t exit of cases = option_map (fold (λ done c. with_case done c.0 c.1) []) (every (case_at t exit of) cases)

-- over what was found of the module, and the names of the function's registers
module _ (t : Tables) (registers : List (Option ℕ)) where
  -- an operand of a type
  abbrev pub operand_at : Scalar → Named ℕ ℕ → Option Operand
  operand_at of (named.Register x) = option_map operand.Register (place_of registers x)
  operand_at of (named.Constant k) = option_map operand.Constant (fixed_at t of k)

  -- an operand that is written with its type
  abbrev pub argument_at : Argument ℕ ℕ ℕ → Option Operand
  argument_at a = do
    of ← scalar_at t a.of
    operand_at of a.value

  abbrev pub binary : ℕ → BinOp → Flags → ℕ → Named ℕ ℕ → Named ℕ ℕ → Option Op
  binary to what flags of left right = do
    r ← place_of registers to
    s ← scalar_at t of
    a ← operand_at s left
    b ← operand_at s right
    Some (op.Binary r what flags a b)

  abbrev pub cast : ℕ → CastOp → Flags → ℕ → Named ℕ ℕ → ℕ → Option Op
  cast to what flags of value target = do
    r ← place_of registers to
    s ← scalar_at t of
    a ← operand_at s value
    u ← scalar_at t target
    w ← width_of u
    Some (op.Cast r what flags a w)

  abbrev pub freeze : ℕ → ℕ → Named ℕ ℕ → Option Op
  freeze to of value = do
    r ← place_of registers to
    s ← scalar_at t of
    a ← operand_at s value
    Some (op.Freeze r a)

  abbrev pub compare : ℕ → Pred → ℕ → Named ℕ ℕ → Named ℕ ℕ → Option Op
  compare to pred of left right = do
    r ← place_of registers to
    s ← scalar_at t of
    a ← operand_at s left
    b ← operand_at s right
    Some (op.Compare r pred a b)

  abbrev pub select : ℕ → Named ℕ ℕ → ℕ → Named ℕ ℕ → Named ℕ ℕ → Option Op
  select to condition of on_true on_false = do
    r ← place_of registers to
    s ← scalar_at t of
    c ← operand_at (scalar.Int 1) condition
    a ← operand_at s on_true
    b ← operand_at s on_false
    Some (op.Select r c a b)

  abbrev pub alloca : ℕ → ℕ → Option (Argument ℕ ℕ ℕ) → Option Op
  alloca to of count = do
    r ← place_of registers to
    size ← size_at t of
    n ← count_of t count
    Some (op.Alloca r (min (size * n) (2 ^ 64 - 1)))

  abbrev pub load : ℕ → ℕ → Named ℕ ℕ → Option Op
  load to of pointer = do
    r ← place_of registers to
    s ← scalar_at t of
    u ← stored s
    p ← operand_at scalar.Pointer pointer
    Some (op.Load r u p)

  abbrev pub store : ℕ → Named ℕ ℕ → Named ℕ ℕ → Option Op
  store of value pointer = do
    s ← scalar_at t of
    u ← stored s
    a ← operand_at u value
    p ← operand_at scalar.Pointer pointer
    Some (op.Store u a p)

  abbrev pub arguments_at : List (Argument ℕ ℕ ℕ) → Option (List Operand)
  arguments_at arguments = every argument_at arguments

  -- a call of a function by its name
  abbrev pub call_named : Option ℕ → ℕ → List (Argument ℕ ℕ ℕ) → Option Op
  call_named to x arguments = do
    r ← result_register registers to
    function ← place_of t.functions x
    values ← arguments_at arguments
    call_of r values function (slice_index_or t.linkages function linkage.Unknown)

  -- a call through a register, at the type that it is written with
  abbrev pub call_pointer : Option ℕ → ℕ → ℕ → List (Argument ℕ ℕ ℕ) → Option Op
  call_pointer to of x arguments = do
    r ← result_register registers to
    p ← place_of registers x
    values ← arguments_at arguments
    parameters ← parameters_at t arguments
    Some (op.CallPointer r (operand.Register p) (scalar_at t of) parameters values)

  abbrev pub call : Option ℕ → ℕ → Callee ℕ → List (Argument ℕ ℕ ℕ) → Option Op
  call to of (callee.Function x) arguments = call_named to x arguments
  call to of (callee.Pointer x) arguments = call_pointer to of x arguments

  abbrev pub return_of : Option (Argument ℕ ℕ ℕ) → Option Op
  return_of None = Some (op.Return None)
  return_of (Some a) = option_map (λ value. op.Return (Some value)) (argument_at a)

  -- over the edge of each label that the function has
  module _ (exit : ℕ → Option ℕ) where
    abbrev pub branch : Named ℕ ℕ → ℕ → ℕ → Option Op
    branch condition x y = do
      c ← operand_at (scalar.Int 1) condition
      a ← exit x
      b ← exit y
      Some (op.Branch c a b)

    abbrev pub switch : ℕ → Named ℕ ℕ → ℕ → List (Case ℕ ℕ) → Option Op
    switch of value default cases = do
      s ← scalar_at t of
      a ← operand_at s value
      d ← exit default
      all ← cases_at t exit s cases
      Some (op.Switch a d all)
