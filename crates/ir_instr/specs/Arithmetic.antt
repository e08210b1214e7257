-- Operations on two integers, behind their word.
use Rattle.std.specs.Prelude.{Ok}
use Rattle.pv_base.specs.declared.name.Name.{Name}
use Rattle.int_num.specs.declared.ops.BinOp.{BinOp}
use Rattle.ir_tree.specs.declared.instruction.Instruction.{Instruction}
use Rattle.ir_tree.specs.declared.instruction.Instruction.TheVariants as instruction
use Rattle.ir_tree.specs.Trees.{TypeV, ConstantV}
use Rattle.ir_text.specs.Operands.{operand_at}
use Rattle.ir_text.specs.Types.{Known}
use Rattle.ir_text.specs.Reading.{Reader, ◌>>=◌, token_by}
use Rattle.ir_text.specs.Leaves.{mark_at}
use Rattle.ir_instr.specs.Parts.{integer_type}
use Rattle.ir_instr.specs.Flags.{flags_at, flags_for}

module _ (known : Known) where
  -- FLAGS iN A, B
  abbrev pub binary_at : Name → BinOp → Reader (Instruction Name TypeV ConstantV)
  binary_at to operation ts = do
    flags ← flags_at (flags_for operation) ts
    of ← token_by integer_type flags.1
    left ← operand_at known of.0 of.1
    comma ← mark_at 44 left.1
    right ← operand_at known of.0 comma.1
    Ok (instruction.Binary to operation flags.0 of.0 left.0 right.0, right.1)
