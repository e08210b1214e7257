-- Printed instructions, a form each.
use Rattle.std.proofs.Common.{ℕ, List}
use Rattle.pv_base.specs.declared.name.Name.{Name}
use Rattle.ir_tree.specs.declared.instruction.Instruction.{Instruction}
use Rattle.ir_tree.specs.declared.instruction.Instruction.TheVariants as instruction
use Rattle.ir_tree.specs.Trees.{TypeV, ConstantV}
use Rattle.ir_text.specs.Types.{Known}
use Rattle.ir_instr.specs.InstructionSpelled.{an_instruction}
use Rattle.ir_printer.specs.Instructions.{instruction_pieces}
use Rattle.print_instrs.specs.Laws.{InstructionsReadBack}
use Rattle.print_instrs.proofs.Below.{ValuesReadBack}
use Rattle.print_instrs.proofs.Printing.{Prints}
use Rattle.print_instrs.proofs.ValueForms.{binary_printed, cast_form_printed, freeze_printed, compare_printed, select_printed, phi_printed}
use Rattle.print_instrs.proofs.MemoryForms.{alloca_printed, load_printed, store_printed, address_printed}
use Rattle.print_instrs.proofs.Calls.{call_form_printed}
use Rattle.print_instrs.proofs.Ends.{return_printed, jump_printed, branch_printed, switch_printed, end_printed}

module _ (v : ValuesReadBack) where
  instruction_printed : (known : Known) (next : ℕ) (defined : List Name) (i : Instruction Name TypeV ConstantV) → Prints (an_instruction known next defined i) (instruction_pieces i)
  instruction_printed known next defined (instruction.Binary to o flags of left right) = binary_printed v known next defined to o flags of left right
  instruction_printed known next defined (instruction.Cast to o flags of value target) = cast_form_printed v known next defined to o flags of value target
  instruction_printed known next defined (instruction.Freeze to of value) = freeze_printed v known next defined to of value
  instruction_printed known next defined (instruction.Compare to p of left right) = compare_printed v known next defined to p of left right
  instruction_printed known next defined (instruction.Select to condition of on_true on_false) = select_printed v known next defined to condition of on_true on_false
  instruction_printed known next defined (instruction.Phi to of arms) = phi_printed v known next defined to of arms
  instruction_printed known next defined (instruction.Alloca to of count) = alloca_printed v known next defined to of count
  instruction_printed known next defined (instruction.Load to of pointer) = load_printed v known next defined to of pointer
  instruction_printed known next defined (instruction.Store of value pointer) = store_printed v known next defined of value pointer
  instruction_printed known next defined (instruction.Address to inbounds of base indices) = address_printed v known next defined to inbounds of base indices
  instruction_printed known next defined (instruction.Call to of variadic what arguments) = call_form_printed v known next defined to of variadic what arguments
  instruction_printed known next defined (instruction.Return value) = return_printed v known next defined value
  instruction_printed known next defined (instruction.Jump target) = jump_printed v known next defined target
  instruction_printed known next defined (instruction.Branch condition on_true on_false) = branch_printed v known next defined condition on_true on_false
  instruction_printed known next defined (instruction.Switch of value default cases) = switch_printed v known next defined of value default cases
  instruction_printed known next defined instruction.Unreachable = end_printed v known next defined

  pub read_back : InstructionsReadBack
  read_back known next defined i ws sound s = (instruction_printed known next defined i).back ws sound s
