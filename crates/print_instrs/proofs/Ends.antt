-- Printed ends of blocks.
use Rattle.std.proofs.Common.{ℕ, List, [], Option, Some, None, refl}
use Rattle.std.specs.Prelude.{codes}
use Rattle.pv_base.specs.declared.name.Name.{Name}
use Rattle.ir_tree.specs.declared.instruction.Operand.{Operand}
use Rattle.ir_tree.specs.declared.instruction.Argument.{Argument}
use Rattle.ir_tree.specs.declared.instruction.Case.{Case}
use Rattle.ir_tree.specs.declared.instruction.Instruction.{Instruction}
use Rattle.ir_tree.specs.declared.instruction.Instruction.TheVariants as instruction
use Rattle.ir_tree.specs.Trees.{TypeV, ConstantV}
use Rattle.ir_text.specs.Tokens.{TokenV}
use Rattle.ir_text.specs.Types.{Known}
use Rattle.ir_instr.specs.InstructionSpelled.{a_returned, an_instruction}
use Rattle.ir_printer.specs.Instructions.{returned_pieces, instruction_pieces}
use Rattle.print_instrs.proofs.Below.{ValuesReadBack}
use Rattle.print_instrs.proofs.Printing.{Prints, also, grouped, grouped3, behind, blank, trailed, ended}
use Rattle.print_instrs.proofs.Tokens.{word, comma_mark, bracket_mark, closing_bracket}
use Rattle.print_instrs.proofs.SingleTypes.{integer_printed, register_printed}
use Rattle.print_instrs.proofs.Parts.{target_printed, operand_printed, value_printed}
use Rattle.print_instrs.proofs.ListParts.{cases_printed}
use Rattle.print_instrs.proofs.ValueForms.{condition_printed}

abbrev Value : Type 0
Value = Operand Name ConstantV

module _ (v : ValuesReadBack) (known : Known) where
  returned_printed : (value : Option (Argument Name TypeV ConstantV)) → Prints (a_returned known value) (returned_pieces value)
  returned_printed None = word (codes "void") refl
  returned_printed (Some a) = also (register_printed v.registers_back a.of) (blank (operand_printed v known a.of a.value))

  module _ (next : ℕ) (defined : List Name) where
    abbrev Spelled : Instruction Name TypeV ConstantV → List TokenV → Type 0
    Spelled i = an_instruction known next defined i

    pub return_printed : (value : Option (Argument Name TypeV ConstantV)) → Prints (Spelled (instruction.Return value)) (instruction_pieces (instruction.Return value))
    unfolding instruction_pieces
    return_printed value = also (word (codes "ret") refl) (blank (ended (returned_printed value)))

    pub jump_printed : (target : Name) → Prints (Spelled (instruction.Jump target)) (instruction_pieces (instruction.Jump target))
    unfolding instruction_pieces
    jump_printed target = also (word (codes "br") refl) (blank (ended (target_printed v target)))

    pub branch_printed : (condition : Value) (on_true on_false : Name) → Prints (Spelled (instruction.Branch condition on_true on_false)) (instruction_pieces (instruction.Branch condition on_true on_false))
    unfolding instruction_pieces
    branch_printed condition on_true on_false =
        grouped3 (behind (grouped (also (also (also (word (codes "br") refl) (condition_printed v known condition)) (also comma_mark (blank (target_printed v on_true)))) (also comma_mark (blank (ended (target_printed v on_false)))))))

    pub switch_printed : (of : TypeV) (value : Value) (default : Name) (cases : List (Case Name ConstantV)) → Prints (Spelled (instruction.Switch of value default cases)) (instruction_pieces (instruction.Switch of value default cases))
    unfolding instruction_pieces
    switch_printed of value default cases =
        grouped3 (behind (grouped (grouped (grouped (also (also (also (also (also (word (codes "switch") refl) (value_printed v known of value (integer_printed v.registers_back of))) (also comma_mark (blank (target_printed v default))))
        (trailed (blank bracket_mark))) (cases_printed v known of [] cases)) (ended closing_bracket))))))

    pub end_printed : Prints (Spelled instruction.Unreachable) (instruction_pieces instruction.Unreachable)
    unfolding instruction_pieces
    end_printed = ended (word (codes "unreachable") refl)
