-- Instructions and items with names, types and constants in place of their numbers.
use Rattle.std.specs.Prelude.{ℕ, map, option_map}
use Rattle.pv_base.specs.declared.name.Name.{Name}
use Rattle.ir_tree.specs.declared.instruction.Operand.{Operand}
use Rattle.ir_tree.specs.declared.instruction.Operand.TheVariants as operand
use Rattle.ir_tree.specs.declared.instruction.Argument.{Argument}
use Rattle.ir_tree.specs.declared.instruction.Arm.{Arm}
use Rattle.ir_tree.specs.declared.instruction.Case.{Case}
use Rattle.ir_tree.specs.declared.instruction.Callee.{Callee}
use Rattle.ir_tree.specs.declared.instruction.Callee.TheVariants as callee
use Rattle.ir_tree.specs.declared.instruction.Instruction.{Instruction}
use Rattle.ir_tree.specs.declared.instruction.Instruction.TheVariants as instruction
use Rattle.ir_tree.specs.declared.items.NamedType.{NamedType}
use Rattle.ir_tree.specs.declared.items.Global.{Global}
use Rattle.ir_tree.specs.declared.items.Param.{Param}
use Rattle.ir_tree.specs.declared.items.Block.{Block}
use Rattle.ir_tree.specs.declared.items.Function.{Function}
use Rattle.ir_tree.specs.Table.{Table}
use Rattle.ir_tree.specs.Trees.{TypeV, ConstantV}
use Rattle.ir_tree.specs.Naming.{name_at, type_at, constant_at}

abbrev pub shown_operand : Table → Operand ℕ ℕ → Operand Name ConstantV
shown_operand t (operand.Register n) = operand.Register (name_at t n)
shown_operand t (operand.Constant k) = operand.Constant (constant_at t k)

abbrev pub shown_argument : Table → Argument ℕ ℕ ℕ → Argument Name TypeV ConstantV
shown_argument t a = record { of = type_at t a.of; value = shown_operand t a.value }

abbrev pub shown_arm : Table → Arm ℕ ℕ → Arm Name ConstantV
shown_arm t a = record { value = shown_operand t a.value; from = name_at t a.from }

abbrev pub shown_case : Table → Case ℕ ℕ → Case Name ConstantV
shown_case t c = record { value = constant_at t c.value; to = name_at t c.to }

abbrev pub shown_callee : Table → Callee ℕ → Callee Name
shown_callee t (callee.Function n) = callee.Function (name_at t n)
shown_callee t (callee.Pointer n) = callee.Pointer (name_at t n)

-- an instruction
unfoldable pub shown : Table → Instruction ℕ ℕ ℕ → Instruction Name TypeV ConstantV
shown t (instruction.Binary to op flags of left right) = instruction.Binary (name_at t to) op flags (type_at t of) (shown_operand t left) (shown_operand t right)
shown t (instruction.Cast to op flags of value target) = instruction.Cast (name_at t to) op flags (type_at t of) (shown_operand t value) (type_at t target)
shown t (instruction.Freeze to of value) = instruction.Freeze (name_at t to) (type_at t of) (shown_operand t value)
shown t (instruction.Compare to pred of left right) = instruction.Compare (name_at t to) pred (type_at t of) (shown_operand t left) (shown_operand t right)
shown t (instruction.Select to condition of on_true on_false) = instruction.Select (name_at t to) (shown_operand t condition) (type_at t of) (shown_operand t on_true) (shown_operand t on_false)
shown t (instruction.Phi to of arms) = instruction.Phi (name_at t to) (type_at t of) (map (shown_arm t) arms)
shown t (instruction.Alloca to of count) = instruction.Alloca (name_at t to) (type_at t of) (option_map (shown_argument t) count)
shown t (instruction.Load to of pointer) = instruction.Load (name_at t to) (type_at t of) (shown_operand t pointer)
shown t (instruction.Store of value pointer) = instruction.Store (type_at t of) (shown_operand t value) (shown_operand t pointer)
shown t (instruction.Address to inbounds of base indices) = instruction.Address (name_at t to) inbounds (type_at t of) (shown_operand t base) (map (shown_argument t) indices)
shown t (instruction.Call to of variadic what arguments) = instruction.Call (option_map (name_at t) to) (type_at t of) variadic (shown_callee t what) (map (shown_argument t) arguments)
shown t (instruction.Return value) = instruction.Return (option_map (shown_argument t) value)
shown t (instruction.Jump target) = instruction.Jump (name_at t target)
shown t (instruction.Branch condition on_true on_false) = instruction.Branch (shown_operand t condition) (name_at t on_true) (name_at t on_false)
shown t (instruction.Switch of value default cases) = instruction.Switch (type_at t of) (shown_operand t value) (name_at t default) (map (shown_case t) cases)
shown t instruction.Unreachable = instruction.Unreachable

-- a named type
abbrev pub shown_named : Table → NamedType ℕ ℕ → NamedType Name TypeV
shown_named t n = record { name = name_at t n.name; of = type_at t n.of }

abbrev pub shown_global : Table → Global ℕ ℕ ℕ → Global Name TypeV ConstantV
shown_global t g = record { name = name_at t g.name; of = type_at t g.of; constant = g.constant; init = constant_at t g.init }

abbrev pub shown_param : Table → Param ℕ ℕ → Param Name TypeV
shown_param t p = record { name = option_map (name_at t) p.name; of = type_at t p.of }

abbrev pub shown_block : Table → Block ℕ ℕ ℕ → Block Name TypeV ConstantV
shown_block t b = record { label = name_at t b.label; instructions = map (shown t) b.instructions }

abbrev pub shown_function : Table → Function ℕ ℕ ℕ → Function Name TypeV ConstantV
shown_function t f = record {
  name = name_at t f.name;
  result = type_at t f.result;
  params = map (shown_param t) f.params;
  variadic = f.variadic;
  blocks = map (shown_block t) f.blocks;
  declared = f.declared;
}
