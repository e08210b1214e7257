-- Printed forms that touch memory.
use Rattle.std.proofs.Common.{ℕ, Bool, List, Option, Some, None, refl}
use Rattle.std.specs.Prelude.{codes}
use Rattle.pv_base.specs.declared.name.Name.{Name}
use Rattle.ir_tree.specs.declared.instruction.Operand.{Operand}
use Rattle.ir_tree.specs.declared.instruction.Argument.{Argument}
use Rattle.ir_tree.specs.declared.instruction.Instruction.{Instruction}
use Rattle.ir_tree.specs.declared.instruction.Instruction.TheVariants as instruction
use Rattle.ir_tree.specs.Trees.{TypeV, ConstantV}
use Rattle.ir_text.specs.Tokens.{TokenV}
use Rattle.ir_text.specs.Types.{Known}
use Rattle.ir_instr.specs.InstructionSpelled.{a_count, an_instruction}
use Rattle.ir_printer.specs.Instructions.{count_pieces, instruction_pieces}
use Rattle.print_instrs.proofs.Below.{ValuesReadBack}
use Rattle.print_instrs.proofs.Printing.{Prints, also, grouped, grouped3, behind, blank, nothing, ended}
use Rattle.print_instrs.proofs.Tokens.{word, comma_mark}
use Rattle.print_instrs.proofs.SingleTypes.{stored_printed}
use Rattle.print_instrs.proofs.Parts.{assigned_printed, pointer_printed, integer_argument_printed, value_printed, memory_printed}
use Rattle.print_instrs.proofs.ListParts.{indices_printed}
use Rattle.print_instrs.proofs.FlagWords.{inbounds_printed}

abbrev Value : Type 0
Value = Operand Name ConstantV

module _ (v : ValuesReadBack) (known : Known) where
  count_printed : (count : Option (Argument Name TypeV ConstantV)) → Prints (a_count known count) (count_pieces count)
  count_printed None = nothing refl
  count_printed (Some a) = also comma_mark (blank (integer_argument_printed v known a))

  module _ (next : ℕ) (defined : List Name) where
    abbrev Spelled : Instruction Name TypeV ConstantV → List TokenV → Type 0
    Spelled i = an_instruction known next defined i

    pub alloca_printed : (to : Name) (of : TypeV) (count : Option (Argument Name TypeV ConstantV)) → Prints (Spelled (instruction.Alloca to of count)) (instruction_pieces (instruction.Alloca to of count))
    unfolding instruction_pieces
    alloca_printed to of count = grouped (grouped (also (also (assigned_printed v known next defined to (codes "alloca") (word (codes "alloca") refl)) (blank (memory_printed v known of))) (ended (count_printed count))))

    pub load_printed : (to : Name) (of : TypeV) (pointer : Value) → Prints (Spelled (instruction.Load to of pointer)) (instruction_pieces (instruction.Load to of pointer))
    unfolding instruction_pieces
    load_printed to of pointer =
        grouped (grouped (also (also (assigned_printed v known next defined to (codes "load") (word (codes "load") refl)) (blank (stored_printed v.registers_back of))) (also comma_mark (blank (ended (pointer_printed v known pointer))))))

    pub store_printed : (of : TypeV) (value pointer : Value) → Prints (Spelled (instruction.Store of value pointer)) (instruction_pieces (instruction.Store of value pointer))
    unfolding instruction_pieces
    store_printed of value pointer = grouped3 (also (also (word (codes "store") refl) (value_printed v known of value (stored_printed v.registers_back of))) (also comma_mark (blank (ended (pointer_printed v known pointer)))))

    pub address_printed : (to : Name) (inbounds : Bool) (of : TypeV) (base : Value) (indices : List (Argument Name TypeV ConstantV))
        → Prints (Spelled (instruction.Address to inbounds of base indices)) (instruction_pieces (instruction.Address to inbounds of base indices))
    unfolding instruction_pieces
    address_printed to inbounds of base indices =
        grouped (grouped (grouped (behind (grouped (also (also (also (also (assigned_printed v known next defined to (codes "getelementptr") (word (codes "getelementptr") refl)) (inbounds_printed inbounds)) (blank (memory_printed v known of)))
        (also comma_mark (blank (pointer_printed v known base)))) (ended (indices_printed v known of indices)))))))
