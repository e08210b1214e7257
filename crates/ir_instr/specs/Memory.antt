-- `alloca`, `load` and `store`, behind their words.
use Rattle.std.specs.Prelude.{Bool, ◌||◌, Option, Some, None, Ok, codes}
use Rattle.pv_base.specs.declared.name.Name.{Name}
use Rattle.ir_tree.specs.declared.instruction.Argument.{Argument}
use Rattle.ir_tree.specs.declared.instruction.Instruction.{Instruction}
use Rattle.ir_tree.specs.declared.instruction.Instruction.TheVariants as instruction
use Rattle.ir_tree.specs.Trees.{TypeV, ConstantV}
use Rattle.ir_text.specs.Tokens.{TokenV, is_mark, is_word}
use Rattle.ir_text.specs.Operands.{operand_at}
use Rattle.ir_text.specs.Reading.{Reader, ◌>>=◌, gives, token_by}
use Rattle.ir_text.specs.Choice.{choose}
use Rattle.ir_text.specs.Leaves.{mark_at}
use Rattle.ir_text.specs.Tails.{tail_at, tails_at}
use Rattle.ir_text.specs.Types.{Known}
use Rattle.ir_text.specs.MemoryTypes.{memory_type_at}
use Rattle.ir_instr.specs.Parts.{stored_type, pointer_at, integer_argument_at}

-- what begins one of the things that are passed over behind an instruction
abbrev pub begins_tail : TokenV → Bool
begins_tail t = is_word (codes "align") t || is_word (codes "section") t || is_word (codes "comdat") t || is_mark 33 t

module _ (known : Known) where
  -- nothing is counted: behind its comma, what is passed over
  abbrev pub uncounted : Reader (Option (Argument Name TypeV ConstantV))
  uncounted ts = do
    tail ← tail_at ts
    others ← tails_at tail.1
    Ok (None, others.1)

  -- iN c, and what is passed over behind it
  abbrev pub counted : Reader (Option (Argument Name TypeV ConstantV))
  counted ts = do
    count ← integer_argument_at known ts
    others ← tails_at count.1
    Ok (Some count.0, others.1)

  abbrev pub behind_comma : Reader (Option (Argument Name TypeV ConstantV))
  behind_comma ts = mark_at 44 ts >>= λ comma. choose begins_tail uncounted counted comma.1

  -- a count or none, and what is passed over
  abbrev pub count_at : Reader (Option (Argument Name TypeV ConstantV))
  count_at = choose (is_mark 44) behind_comma (gives None)

  -- T, or T, iN c, and what is passed over behind it
  abbrev pub alloca_at : Name → Reader (Instruction Name TypeV ConstantV)
  alloca_at to ts = do
    of ← memory_type_at known ts
    count ← count_at of.1
    Ok (instruction.Alloca to of.0 count.0, count.1)

  -- T, ptr P
  abbrev pub load_at : Name → Reader (Instruction Name TypeV ConstantV)
  load_at to ts = do
    of ← token_by stored_type ts
    comma ← mark_at 44 of.1
    pointer ← pointer_at known comma.1
    Ok (instruction.Load to of.0 pointer.0, pointer.1)

  -- T A, ptr P
  abbrev pub store_at : Reader (Instruction Name TypeV ConstantV)
  store_at ts = do
    of ← token_by stored_type ts
    value ← operand_at known of.0 of.1
    comma ← mark_at 44 value.1
    pointer ← pointer_at known comma.1
    Ok (instruction.Store of.0 value.0 pointer.0, pointer.1)
