-- Reduction operations, and triples: three adjacent instructions that load an element, join an operand into it and store it.
use Rattle.std.specs.Prelude.{ℕ, suc, ◌+◌, length, find, sum_by, count_by, Bool, false, not, ◌&&◌, ◌||◌, nat_eq, List, [], ◌∷◌, ◌++◌, Option, Some, None, option_map, if◌then◌else◌}
use Rattle.int_num.specs.declared.ops.BinOp.{BinOp}
use Rattle.int_num.specs.declared.ops.BinOp.TheVariants as bin
use Rattle.int_num.specs.declared.ops.Flags.{Flags}
use Rattle.int_num.specs.declared.ops.RedOp.{RedOp}
use Rattle.int_num.specs.declared.ops.RedOp.TheVariants.{Add, Mul, And, Or, Xor, Smax, Smin, Umax, Umin}
use Rattle.int_num.specs.declared.ops.RedKind.{RedKind}
use Rattle.pv_base.specs.declared.name.Name.{Name}
use Rattle.pv_base.specs.declared.place.Site.{Site}
use Rattle.pv_base.specs.declared.external.External.{External}
use Rattle.pv_base.specs.declared.external.External.TheVariants as outer
use Rattle.ir_tree.specs.declared.instruction.Operand.TheVariants as operand
use Rattle.ir_tree.specs.declared.instruction.Callee.TheVariants as callee
use Rattle.ir_tree.specs.declared.instruction.Instruction.TheVariants as tree
use Rattle.ir_tree.specs.declared.plans.Triple.{Triple}
use Rattle.ir_tree.specs.Table.{same_name}
use Rattle.ir_tree.specs.Trees.{IntV}
use Rattle.ir_rules.specs.Seen.{ModuleV, FunctionV, BlockV, InstructionV, OperandV, ArgumentV}
use Rattle.ir_rules.specs.Same.{same_operand}
use Rattle.ir_rules.specs.Forms.{uses}
use Rattle.ir_rules.specs.Calls.{external_of}
use Rattle.loop_plan.specs.Naming.{instructions_of}

-- ---- operations

-- a reduction's operation on two operands
pub record Joining : Type 0 where
  pub to : Name
  pub kind : RedKind
  pub left : OperandV
  pub right : OperandV

abbrev pub no_flags : Flags
no_flags = record { nsw = false; nuw = false; exact = false; disjoint = false; nneg = false }

abbrev pub is_plain : Flags → Bool
is_plain flags = not (flags.nsw || flags.nuw || flags.exact || flags.disjoint || flags.nneg)

-- an operation that joins in any order: a sum may promise its ranges, and no other promises anything
abbrev pub joining_op : BinOp → Flags → Option RedOp
joining_op bin.Add flags = Some Add
joining_op bin.Mul flags = if is_plain flags then Some Mul else None
joining_op bin.And flags = if is_plain flags then Some And else None
joining_op bin.Or flags = if is_plain flags then Some Or else None
joining_op bin.Xor flags = if is_plain flags then Some Xor else None
joining_op op flags = None

abbrev pub kind_of : RedOp → Flags → ℕ → RedKind
kind_of op flags width = record { op = op; flags = flags; width = width }

-- the greater or the less of two integers, by the function outside the module
abbrev pub extreme_kind : External → Option RedKind
extreme_kind (outer.Smax w) = Some (kind_of Smax no_flags w)
extreme_kind (outer.Smin w) = Some (kind_of Smin no_flags w)
extreme_kind (outer.Umax w) = Some (kind_of Umax no_flags w)
extreme_kind (outer.Umin w) = Some (kind_of Umin no_flags w)
extreme_kind e = None

abbrev pub extreme : Name → Option External → List ArgumentV → Option Joining
extreme to (Some e) (a ∷ b ∷ []) = option_map (λ kind. record { to = to; kind = kind; left = a.value; right = b.value }) (extreme_kind e)
extreme to e arguments = None

-- the instruction as a reduction's operation
abbrev pub joining : InstructionV → Option Joining
joining (tree.Binary to op flags (IntV width) left right) = option_map (λ o. record { to = to; kind = kind_of o flags width; left = left; right = right }) (joining_op op flags)
joining (tree.Call (Some to) of variadic (callee.Function x) arguments) = extreme to (external_of x) arguments
joining i = None

-- ---- uses

-- the operand is this register
abbrev pub is_register : Name → OperandV → Bool
is_register x (operand.Register y) = same_name x y
is_register x (operand.Constant c) = false

-- how often an instruction reads a register
abbrev pub reads_of : Name → InstructionV → ℕ
reads_of x i = count_by (λ u. is_register x u.value) (uses i)

-- how often a function's instructions read a register
abbrev pub reads_in : Name → List InstructionV → ℕ
reads_in x instructions = sum_by (reads_of x) instructions

-- the operation joins this register with another operand
abbrev pub joins : Name → Joining → Bool
joins x j = is_register x j.left || is_register x j.right

-- ---- triples

abbrev pub is_element_width : ℕ → Bool
is_element_width w = nat_eq w 8 || nat_eq w 16 || nat_eq w 32 || nat_eq w 64

abbrev pub place_in : ℕ → ℕ → Site
place_in function place = record { function = function; place = place }

abbrev pub with_triple : ℕ → ℕ → Option RedKind → List Triple → List Triple
with_triple function place None behind = behind
with_triple function place (Some kind) behind =
    record { load = place_in function place; op = place_in function (place + 1); store = place_in function (place + 2); kind = kind } ∷ behind

-- over the instructions of a function
module _ (all : List InstructionV) where
  -- a loaded register is read once and only by the operation, and the operation's once and only by the store
  abbrev pub threaded : Name → Joining → OperandV → Bool
  threaded loaded j stored = joins loaded j && nat_eq (reads_in loaded all) 1 && is_register j.to stored && nat_eq (reads_in j.to all) 1

  abbrev pub triple_of : ℕ → Name → OperandV → Option Joining → ℕ → OperandV → OperandV → Option RedKind
  triple_of width loaded from None w stored to = None
  triple_of width loaded from (Some j) w stored to =
      if nat_eq width j.kind.width && nat_eq width w && is_element_width width && same_operand from to && threaded loaded j stored
      then Some j.kind else None

  -- the kind of the triple that these three instructions are
  abbrev pub triple : InstructionV → InstructionV → InstructionV → Option RedKind
  triple (tree.Load to (IntV width) pointer) op (tree.Store (IntV w) value at) = triple_of width to pointer (joining op) w value at
  triple a b c = None

  -- the kind of the triple that an instruction begins with the two behind it
  abbrev pub triple_at : InstructionV → List InstructionV → Option RedKind
  triple_at a (b ∷ c ∷ rest) = triple a b c
  triple_at a rest = None

  -- the triples of a block whose first instruction has this number
  abbrev pub triples_from : ℕ → ℕ → List InstructionV → List Triple
  triples_from function place [] = []
  triples_from function place (a ∷ rest) = with_triple function place (triple_at a rest) (triples_from function (suc place) rest)

  -- the triples of blocks, of which the first begins at this number
  abbrev pub block_triples : ℕ → ℕ → List BlockV → List Triple
  block_triples function place [] = []
  block_triples function place (b ∷ bs) = triples_from function place b.instructions ++ block_triples function (place + length b.instructions) bs

-- the triples of functions, of which the first has this number, by the sites of their loads
abbrev pub function_triples : ℕ → List FunctionV → List Triple
function_triples k [] = []
function_triples k (f ∷ fs) = block_triples (instructions_of f) k 0 f.blocks ++ function_triples (suc k) fs

-- all triples of a module, by the sites of their loads
abbrev pub triples_of : ModuleV → List Triple
triples_of v = function_triples 0 v.functions

abbrev pub same_site : Site → Site → Bool
same_site a b = nat_eq a.function b.function && nat_eq a.place b.place

-- the instruction at a site loads or stores an element of a triple
abbrev pub touches_element : Site → Triple → Bool
touches_element at t = same_site at t.load || same_site at t.store

-- the triple whose load or store stands at a site
abbrev pub triple_with : List Triple → Site → Option Triple
triple_with triples at = find (touches_element at) triples
