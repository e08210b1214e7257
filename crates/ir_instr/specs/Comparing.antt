-- `icmp`, behind its word.
use Rattle.std.specs.Prelude.{ℕ, List, [], ◌∷◌, Ok, codes}
use Rattle.pv_base.specs.declared.name.Name.{Name}
use Rattle.ir_tree.specs.declared.instruction.Instruction.{Instruction}
use Rattle.ir_tree.specs.declared.instruction.Instruction.TheVariants as instruction
use Rattle.ir_tree.specs.Trees.{TypeV, ConstantV}
use Rattle.ir_text.specs.Operands.{operand_at}
use Rattle.ir_text.specs.Reading.{Reader, ◌>>=◌, token_by}
use Rattle.ir_text.specs.Leaves.{mark_at}
use Rattle.ir_text.specs.Types.{Known, register_type}
use Rattle.ir_instr.specs.Words.{worded, predicates}
use Rattle.ir_instr.specs.Flags.{words_of}

-- passed over before the predicate
abbrev pub comparing_words : List (List ℕ)
comparing_words = codes "samesign" ∷ []

module _ (known : Known) where
  -- P T A, B
  abbrev pub compare_at : Name → Reader (Instruction Name TypeV ConstantV)
  compare_at to ts = do
    passed ← words_of comparing_words ts
    pred ← token_by (worded predicates) passed.1
    of ← token_by register_type pred.1
    left ← operand_at known of.0 of.1
    comma ← mark_at 44 left.1
    right ← operand_at known of.0 comma.1
    Ok (instruction.Compare to pred.0 of.0 left.0 right.0, right.1)
