-- What instructions define.
use Rattle.std.specs.Prelude.{Option, Some, None}
use Rattle.ir_tree.specs.declared.instruction.Instruction.{Instruction}
use Rattle.ir_tree.specs.declared.instruction.Instruction.TheVariants as instruction

-- the name that an instruction defines, or its number
abbrev pub result_of : {N T C : Type 0} → Instruction N T C → Option N
result_of (instruction.Binary to op flags of left right) = Some to
result_of (instruction.Cast to op flags of value target) = Some to
result_of (instruction.Freeze to of value) = Some to
result_of (instruction.Compare to pred of left right) = Some to
result_of (instruction.Select to condition of on_true on_false) = Some to
result_of (instruction.Phi to of arms) = Some to
result_of (instruction.Alloca to of count) = Some to
result_of (instruction.Load to of pointer) = Some to
result_of (instruction.Address to inbounds of base indices) = Some to
result_of (instruction.Call to of variadic what arguments) = to
result_of other = None
