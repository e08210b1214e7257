-- Printed operations on values: arithmetic, changes of width, comparisons, selections.
use Rattle.std.proofs.Common.{ℕ, List, refl}
use Rattle.std.specs.Prelude.{codes}
use Rattle.std.specs.Fmt.{digits}
use Rattle.pv_base.specs.declared.name.Name.{Name}
use Rattle.int_num.specs.declared.ops.BinOp.{BinOp}
use Rattle.int_num.specs.declared.ops.CastOp.{CastOp}
use Rattle.int_num.specs.declared.ops.Pred.{Pred}
use Rattle.int_num.specs.declared.ops.Flags.{Flags}
use Rattle.ir_tree.specs.declared.instruction.Operand.{Operand}
use Rattle.ir_tree.specs.declared.instruction.Arm.{Arm}
use Rattle.ir_tree.specs.declared.instruction.Instruction.{Instruction}
use Rattle.ir_tree.specs.declared.instruction.Instruction.TheVariants as instruction
use Rattle.ir_tree.specs.Trees.{TypeV, IntV, ConstantV}
use Rattle.ir_text.specs.Tokens.{TokenV}
use Rattle.ir_text.specs.Operands.{an_operand}
use Rattle.ir_text.specs.Spelled.{one_token}
use Rattle.ir_text.specs.Types.{Known}
use Rattle.ir_text.specs.Tails.{some_tails}
use Rattle.ir_text.specs.TypeSpelled.{◌▸◌, a_mark}
use Rattle.ir_instr.specs.Parts.{fixed_type}
use Rattle.ir_instr.specs.InstructionSpelled.{an_instruction}
use Rattle.ir_printer.specs.Operands.{type_pieces}
use Rattle.ir_printer.specs.Instructions.{operation_word, cast_word, condition_pieces, operands_pieces, instruction_pieces}
use Rattle.print_instrs.proofs.Below.{ValuesReadBack}
use Rattle.print_instrs.proofs.Printing.{Tokens, Prints, also, also2, grouped, behind, behind3, blank, trailed, ended}
use Rattle.print_instrs.proofs.Tokens.{word, comma_mark}
use Rattle.print_instrs.proofs.SingleTypes.{fixed_printed, integer_printed, register_printed}
use Rattle.print_instrs.proofs.Parts.{assigned_printed, led_by, operand_printed, value_printed}
use Rattle.print_instrs.proofs.ListParts.{arms_printed}
use Rattle.print_instrs.proofs.FlagWords.{operation_flags_printed, cast_flags_printed, compared_words_printed}
use Rattle.print_instrs.proofs.TableWords.{operation_printed, cast_printed, predicate_printed}

abbrev Value : Type 0
Value = Operand Name ConstantV

module _ (v : ValuesReadBack) (known : Known) where
  -- ` T A, B`
  operands_printed : {a : Tokens} (of : TypeV) (left right : Value) → Prints a (type_pieces of) → Prints (a ▸ an_operand known of left ▸ a_mark 44 ▸ an_operand known of right ▸ some_tails tt) (operands_pieces of left right)
  operands_printed of left right p = also2 (value_printed v known of left p) (also comma_mark (blank (ended (operand_printed v known of right))))

  -- ` i1 A`
  pub condition_printed : (value : Value) → Prints (one_token (fixed_type (IntV 1)) tt ▸ an_operand known (IntV 1) value) (condition_pieces value)
  unfolding type_pieces digits
  condition_printed value = value_printed v known (IntV 1) value (fixed_printed v.registers_back (IntV 1))

  module _ (next : ℕ) (defined : List Name) where
    abbrev Spelled : Instruction Name TypeV ConstantV → List TokenV → Type 0
    Spelled i = an_instruction known next defined i

    pub binary_printed : (to : Name) (o : BinOp) (flags : Flags) (of : TypeV) (left right : Value) → Prints (Spelled (instruction.Binary to o flags of left right)) (instruction_pieces (instruction.Binary to o flags of left right))
    unfolding instruction_pieces
    binary_printed to o flags of left right =
        grouped (grouped (also (also (assigned_printed v known next defined to (operation_word o) (operation_printed o)) (operation_flags_printed o flags)) (operands_printed of left right (integer_printed v.registers_back of))))

    pub cast_form_printed : (to : Name) (o : CastOp) (flags : Flags) (of : TypeV) (value : Value) (target : TypeV) → Prints (Spelled (instruction.Cast to o flags of value target)) (instruction_pieces (instruction.Cast to o flags of value target))
    unfolding instruction_pieces
    cast_form_printed to o flags of value target =
        grouped (grouped (behind (grouped (also (also (also (assigned_printed v known next defined to (cast_word o) (cast_printed o)) (cast_flags_printed o flags)) (value_printed v known of value (integer_printed v.registers_back of)))
        (blank (also (word (codes "to") refl) (blank (ended (integer_printed v.registers_back target)))))))))

    pub freeze_printed : (to : Name) (of : TypeV) (value : Value) → Prints (Spelled (instruction.Freeze to of value)) (instruction_pieces (instruction.Freeze to of value))
    unfolding instruction_pieces
    freeze_printed to of value = led_by v known next defined to (codes "freeze") refl (also (blank (register_printed v.registers_back of)) (blank (ended (operand_printed v known of value))))

    pub compare_printed : (to : Name) (p : Pred) (of : TypeV) (left right : Value) → Prints (Spelled (instruction.Compare to p of left right)) (instruction_pieces (instruction.Compare to p of left right))
    unfolding instruction_pieces
    compare_printed to p of left right =
        grouped (behind (grouped (also (also (assigned_printed v known next defined to (codes "icmp") (word (codes "icmp") refl)) (also compared_words_printed (blank (predicate_printed p)))) (operands_printed of left right (register_printed v.registers_back of)))))

    pub select_printed : (to : Name) (condition : Value) (of : TypeV) (on_true on_false : Value) → Prints (Spelled (instruction.Select to condition of on_true on_false)) (instruction_pieces (instruction.Select to condition of on_true on_false))
    unfolding instruction_pieces
    select_printed to condition of on_true on_false =
        grouped (behind (grouped (behind3 (grouped (also (also (also (assigned_printed v known next defined to (codes "select") (word (codes "select") refl)) (condition_printed condition))
        (also comma_mark (blank (also (register_printed v.registers_back of) (blank (operand_printed v known of on_true))))))
        (also comma_mark (blank (also (fixed_printed v.registers_back of) (blank (ended (operand_printed v known of on_false)))))))))))

    pub phi_printed : (to : Name) (of : TypeV) (arms : List (Arm Name ConstantV)) → Prints (Spelled (instruction.Phi to of arms)) (instruction_pieces (instruction.Phi to of arms))
    unfolding instruction_pieces
    phi_printed to of arms =
        grouped (grouped (also (trailed (also (assigned_printed v known next defined to (codes "phi") (word (codes "phi") refl)) (blank (register_printed v.registers_back of)))) (ended (arms_printed v known of arms))))
