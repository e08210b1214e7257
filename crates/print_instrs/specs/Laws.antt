-- What is said of printed instructions: where tokens spell one, what is printed of it spells it too.
use Rattle.std.specs.Prelude.{ℕ, List}
use Rattle.pv_base.specs.declared.name.Name.{Name}
use Rattle.ir_tree.specs.declared.instruction.Instruction.{Instruction}
use Rattle.ir_tree.specs.Trees.{TypeV, ConstantV}
use Rattle.ir_text.specs.Tokens.{TokenV}
use Rattle.ir_text.specs.Types.{Known}
use Rattle.ir_instr.specs.InstructionSpelled.{an_instruction}
use Rattle.ir_printer.specs.Instructions.{instruction_pieces}
use Rattle.print_tokens.specs.Standing.{Inline}
use Rattle.print_values.specs.Printed.{AreSound, Printed}

abbrev pub InstructionsReadBack : Type 0
InstructionsReadBack =
    (known : Known) (next : ℕ) (defined : List Name) (i : Instruction Name TypeV ConstantV) (ws : List TokenV)
    → AreSound ws → an_instruction known next defined i ws → Printed (an_instruction known next defined i) (instruction_pieces i)

-- and stands inside a line
abbrev pub InstructionsStand : Type 0
InstructionsStand = (i : Instruction Name TypeV ConstantV) → Inline (instruction_pieces i)
