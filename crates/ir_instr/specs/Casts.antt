-- Changes of width and `freeze`, behind their word.
use Rattle.std.specs.Prelude.{Ok, codes}
use Rattle.pv_base.specs.declared.name.Name.{Name}
use Rattle.int_num.specs.declared.ops.CastOp.{CastOp}
use Rattle.ir_tree.specs.declared.instruction.Instruction.{Instruction}
use Rattle.ir_tree.specs.declared.instruction.Instruction.TheVariants as instruction
use Rattle.ir_tree.specs.Trees.{TypeV, ConstantV}
use Rattle.ir_text.specs.Operands.{operand_at}
use Rattle.ir_text.specs.Reading.{Reader, ◌>>=◌, token_by}
use Rattle.ir_text.specs.Leaves.{word_at}
use Rattle.ir_text.specs.Types.{Known, register_type}
use Rattle.ir_instr.specs.Parts.{integer_type}
use Rattle.ir_instr.specs.Flags.{flags_at, cast_flags_for}

module _ (known : Known) where
  -- FLAGS iN A to iM
  abbrev pub cast_at : Name → CastOp → Reader (Instruction Name TypeV ConstantV)
  cast_at to operation ts = do
    flags ← flags_at (cast_flags_for operation) ts
    of ← token_by integer_type flags.1
    value ← operand_at known of.0 of.1
    into ← word_at (codes "to") value.1
    target ← token_by integer_type into.1
    Ok (instruction.Cast to operation flags.0 of.0 value.0 target.0, target.1)

  -- T A
  abbrev pub freeze_at : Name → Reader (Instruction Name TypeV ConstantV)
  freeze_at to ts = do
    of ← token_by register_type ts
    value ← operand_at known of.0 of.1
    Ok (instruction.Freeze to of.0 value.0, value.1)
