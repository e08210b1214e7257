-- The parts of a module that is written out.
use Rattle.pv_base.specs.declared.name.Name.{Name}
use Rattle.ir_tree.specs.declared.instruction.Operand.{Operand}
use Rattle.ir_tree.specs.declared.instruction.Argument.{Argument}
use Rattle.ir_tree.specs.declared.instruction.Arm.{Arm}
use Rattle.ir_tree.specs.declared.instruction.Case.{Case}
use Rattle.ir_tree.specs.declared.instruction.Callee.{Callee}
use Rattle.ir_tree.specs.declared.instruction.Instruction.{Instruction}
use Rattle.ir_tree.specs.declared.items.Global.{Global}
use Rattle.ir_tree.specs.declared.items.Block.{Block}
use Rattle.ir_tree.specs.declared.items.Function.{Function}
use Rattle.ir_tree.specs.Trees.{TypeV, ConstantV}
pub use Rattle.ir_tree.specs.Written.{ModuleV, shown_module as seen}

abbrev pub OperandV : Type 0
OperandV = Operand Name ConstantV

abbrev pub ArgumentV : Type 0
ArgumentV = Argument Name TypeV ConstantV

abbrev pub ArmV : Type 0
ArmV = Arm Name ConstantV

abbrev pub CaseV : Type 0
CaseV = Case Name ConstantV

abbrev pub CalleeV : Type 0
CalleeV = Callee Name

abbrev pub InstructionV : Type 0
InstructionV = Instruction Name TypeV ConstantV

abbrev pub BlockV : Type 0
BlockV = Block Name TypeV ConstantV

abbrev pub FunctionV : Type 0
FunctionV = Function Name TypeV ConstantV

abbrev pub GlobalV : Type 0
GlobalV = Global Name TypeV ConstantV
