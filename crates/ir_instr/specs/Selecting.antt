-- `select` and `phi`, behind their words.
use Rattle.std.specs.Prelude.{◌∷◌, Ok}
use Rattle.pv_base.specs.declared.name.Name.{Name}
use Rattle.ir_tree.specs.declared.instruction.Arm.{Arm}
use Rattle.ir_tree.specs.declared.instruction.Instruction.{Instruction}
use Rattle.ir_tree.specs.declared.instruction.Instruction.TheVariants as instruction
use Rattle.ir_tree.specs.Trees.{TypeV, IntV, ConstantV}
use Rattle.ir_text.specs.Tokens.{is_mark}
use Rattle.ir_text.specs.Operands.{operand_at}
use Rattle.ir_text.specs.Reading.{Reader, ◌>>=◌, token_by}
use Rattle.ir_text.specs.Leaves.{mark_at, local_at}
use Rattle.ir_text.specs.Trailing.{trailing_at}
use Rattle.ir_text.specs.Types.{Known, register_type}
use Rattle.ir_instr.specs.Parts.{fixed_type}

module _ (known : Known) where
  -- i1 C, T A, T B
  abbrev pub select_at : Name → Reader (Instruction Name TypeV ConstantV)
  select_at to ts = do
    bit ← token_by (fixed_type (IntV 1)) ts
    condition ← operand_at known (IntV 1) bit.1
    comma ← mark_at 44 condition.1
    of ← token_by register_type comma.1
    on_true ← operand_at known of.0 of.1
    next ← mark_at 44 on_true.1
    same ← token_by (fixed_type of.0) next.1
    on_false ← operand_at known of.0 same.1
    Ok (instruction.Select to condition.0 of.0 on_true.0 on_false.0, on_false.1)

  -- [ A, %from ]
  abbrev pub arm_at : TypeV → Reader (Arm Name ConstantV)
  arm_at of ts = do
    bracket ← mark_at 91 ts
    value ← operand_at known of bracket.1
    comma ← mark_at 44 value.1
    from ← local_at comma.1
    close ← mark_at 93 from.1
    Ok (record { value = value.0; from = from.0 }, close.1)

  -- T [ A, %from ], .. and what is passed over behind it
  abbrev pub phi_at : Name → Reader (Instruction Name TypeV ConstantV)
  phi_at to ts = do
    of ← token_by register_type ts
    first ← arm_at of.0 of.1
    others ← trailing_at (is_mark 91) (arm_at of.0) first.1
    Ok (instruction.Phi to of.0 (first.0 ∷ others.0), others.1)
