-- `ret`, `br` and `switch`, behind their words.
use Rattle.std.specs.Prelude.{ℕ, nat_eq, Bool, true, false, not, ◌||◌, if◌then◌else◌, List, [], ◌∷◌, Option, Some, None, Ok, Err, codes}
use Rattle.std.specs.List.{list_any}
use Rattle.pv_base.specs.declared.name.Name.{Name}
use Rattle.ir_lex.specs.declared.token.TokenKind.{TokenKind}
use Rattle.ir_lex.specs.declared.token.TokenKind.TheVariants as kind
use Rattle.ir_lex.specs.declared.token.Cause.TheVariants as causes
use Rattle.ir_tree.specs.declared.instruction.Argument.{Argument}
use Rattle.ir_tree.specs.declared.instruction.Case.{Case}
use Rattle.ir_tree.specs.declared.instruction.Instruction.{Instruction}
use Rattle.ir_tree.specs.declared.instruction.Instruction.TheVariants as instruction
use Rattle.ir_tree.specs.Trees.{TypeV, IntV, VoidV, ConstantV, IntegerC, ZeroC}
use Rattle.ir_text.specs.declared.fault.Fault.TheVariants.{Ended}
use Rattle.ir_text.specs.Tokens.{TokenV, is_mark, is_word}
use Rattle.ir_text.specs.Operands.{constant_at, operand_at}
use Rattle.ir_text.specs.Constants.{width_of}
use Rattle.ir_text.specs.Reading.{Reader, ◌>>=◌, wrong, Meaning, token_by}
use Rattle.ir_text.specs.Choice.{choose}
use Rattle.ir_text.specs.Leaves.{mark_at}
use Rattle.ir_text.specs.Passed.{is_type_word}
use Rattle.ir_text.specs.Repeated.{repeated_under}
use Rattle.ir_text.specs.Types.{Known, result_type}
use Rattle.ir_instr.specs.Parts.{fixed_type, integer_type, target_at}

-- ---- branches

abbrev pub begins_type_by : TokenKind → TokenV → Bool
begins_type_by kind.Word t = is_type_word t.text
begins_type_by kind.LocalName t = true
begins_type_by _ t = is_mark 91 t || is_mark 123 t || is_mark 60 t

-- a token that begins a type
abbrev pub begins_type : TokenV → Bool
begins_type t = begins_type_by t.kind t

-- i1: what begins no type is no operand, since a label may stand here too
abbrev pub condition_type : Meaning (Unit {0})
condition_type t = if begins_type t then fixed_type (IntV 1) t else Err causes.Operand

-- label %to
abbrev pub jump_at : Reader (Instruction Name TypeV ConstantV)
jump_at ts = target_at ts >>= λ target. Ok (instruction.Jump target.0, target.1)

-- ---- the values of a switch

-- the bits of a value
abbrev pub bits_of : ConstantV → Option ℕ
bits_of (IntegerC n) = Some n.bits
bits_of ZeroC = Some 0
bits_of other = None

-- whether a value with these bits was met before
abbrev pub met_before : List ℕ → Option ℕ → Bool
met_before earlier (Some bits) = list_any (nat_eq bits) earlier
met_before earlier None = false

abbrev pub with_bits : List ℕ → Option ℕ → List ℕ
with_bits earlier (Some bits) = bits ∷ earlier
with_bits earlier None = earlier

-- the values met before, and that of a case
abbrev pub with_case : List ℕ → Case Name ConstantV → List ℕ
with_case earlier c = with_bits earlier (bits_of c.value)

module _ (known : Known) where
  -- ---- returns

  abbrev pub returned_at : TypeV → Reader (Option (Argument Name TypeV ConstantV))
  returned_at VoidV ts = Ok (None, ts)
  returned_at of ts = operand_at known of ts >>= λ value. Ok (Some (record { of = of; value = value.0 }), value.1)

  -- void, or T A
  abbrev pub return_at : Reader (Instruction Name TypeV ConstantV)
  return_at ts = do
    of ← token_by result_type ts
    value ← returned_at of.0 of.1
    Ok (instruction.Return value.0, value.1)

  -- ---- branches

  -- i1 C, label %a, label %b
  abbrev pub branch_at : Reader (Instruction Name TypeV ConstantV)
  branch_at ts = do
    bit ← token_by condition_type ts
    condition ← operand_at known (IntV 1) bit.1
    comma ← mark_at 44 condition.1
    on_true ← target_at comma.1
    next ← mark_at 44 on_true.1
    on_false ← target_at next.1
    Ok (instruction.Branch condition.0 on_true.0 on_false.0, on_false.1)

  abbrev pub jump_or_branch_at : Reader (Instruction Name TypeV ConstantV)
  jump_or_branch_at = choose (is_word (codes "label")) jump_at branch_at

  -- ---- switches

  -- a constant whose bits are none of those before
  unfoldable pub case_value_at : TypeV → List ℕ → Reader ConstantV
  case_value_at of earlier [] = Err Ended
  case_value_at of earlier (t ∷ rest) = constant_at known (width_of of) (t ∷ rest) >>= λ value. if met_before earlier (bits_of value.0) then wrong t causes.Duplicate else Ok value

  -- iN c, label %to
  abbrev pub case_at : TypeV → List ℕ → Reader (Case Name ConstantV)
  case_at of earlier ts = do
    type ← token_by (fixed_type of) ts
    value ← case_value_at of earlier type.1
    comma ← mark_at 44 value.1
    to ← target_at comma.1
    Ok (record { value = value.0; to = to.0 }, to.1)

  -- iN A, label %default [ iN c, label %to .. ]
  abbrev pub switch_at : Reader (Instruction Name TypeV ConstantV)
  switch_at ts = do
    of ← token_by integer_type ts
    value ← operand_at known of.0 of.1
    comma ← mark_at 44 value.1
    default ← target_at comma.1
    bracket ← mark_at 91 default.1
    cases ← repeated_under (λ t. not (is_mark 93 t)) (case_at of.0) with_case [] bracket.1
    close ← mark_at 93 cases.1
    Ok (instruction.Switch of.0 value.0 default.0 cases.0, close.1)
