-- The indices of an address take tokens.
use Rattle.std.proofs.Common.{ℕ, ◌+◌, ◌≤◌, length, arith, Bool, true, false, cond, List, [], ◌∷◌, Option, Some, None, Ok}
use Rattle.std.specs.Prelude.{is_some}
use Rattle.pv_base.specs.declared.name.Name.{Name}
use Rattle.ir_lex.specs.declared.token.Cause.TheVariants as causes
use Rattle.ir_tree.specs.declared.instruction.Operand.{Operand}
use Rattle.ir_tree.specs.declared.instruction.Argument.{Argument}
use Rattle.ir_tree.specs.Trees.{TypeV, IntV, PtrV, VoidV, ArrayV, StructV, NamedV, TypesV, ConstantV}
use Rattle.ir_tree.specs.Layouts.{field_type}
use Rattle.ir_text.specs.Tokens.{TokenV}
use Rattle.ir_text.specs.Reading.{Outcome, next_is, wrong}
use Rattle.ir_text.specs.Leaves.{mark_at}
use Rattle.ir_text.specs.Tails.{tail_at}
use Rattle.ir_text.specs.Trailing.{passed_tail}
use Rattle.ir_text.specs.Types.{Known}
use Rattle.ir_text.specs.Operands.{operand_at}
use Rattle.ir_text.proofs.Agreeing.{Shortens}
use Rattle.ir_instr.specs.Memory.{begins_tail}
use Rattle.ir_instr.specs.Parts.{integer_argument_at}
use Rattle.ir_instr.specs.Addresses.{Into, Whole, Inside, Faulty, opened, field_number, field_checked, field_value_at, field_index_at, no_index, index_into, index_at, some_index_at, index_or_tail, behind_comma}
use Rattle.ir_instr.proofs.Shrinking.{Less, then_less, choose_less, still_less, shortens_by, token_less, operand_less, tail_keeps}

module _ (known : Known) where
  pub integer_less : (n : ℕ) (ts : List TokenV) → length ts ≤ n → Less n (integer_argument_at known ts)
  integer_less n ts few =
      then_less n _ _ (token_less _ n ts few) (λ a la.
      then_less n _ _ (operand_less known a.0 n a.1 (omega arith)) (λ b lb. lb))

  if_field : (n : ℕ) (t : TokenV) (x : Operand Name ConstantV × List TokenV) (b : Bool) → 1 + length x.1 ≤ n → Less n (cond b (let p : Outcome (Operand Name ConstantV) = Ok x in p) (wrong t causes.Number))
  if_field n t x true h = h
  if_field n t x false h = tt

  checked_less : (fields : TypesV) (n : ℕ) (t : TokenV) (x : Operand Name ConstantV × List TokenV) (o : Option ℕ) → 1 + length x.1 ≤ n → Less n (field_checked fields t x o)
  checked_less fields n t x None h = tt
  checked_less fields n t x (Some i) h = if_field n t x (is_some (field_type fields i)) h

  value_less : (fields : TypesV) (n : ℕ) (ts : List TokenV) → length ts ≤ n → Less n (field_value_at known fields ts)
  unfolding field_value_at
  value_less fields n [] few = tt
  value_less fields n (t ∷ rest) few = then_less n (operand_at known (IntV 32) (t ∷ rest)) _ (operand_less known (IntV 32) n (t ∷ rest) few) (λ x h. checked_less fields n t x (field_number x.0) h)

  field_less : (fields : TypesV) (n : ℕ) (ts : List TokenV) → length ts ≤ n → Less n (field_index_at known fields ts)
  field_less fields n ts few =
      then_less n _ _ (token_less _ n ts few) (λ a la.
      then_less n _ _ (value_less fields n a.1 (omega arith)) (λ b lb. lb))

  into_less : (o : Option TypeV) (n : ℕ) (ts : List TokenV) → length ts ≤ n → Less n (index_into known o ts)
  into_less None n ts few = integer_less n ts few
  into_less (Some (ArrayV count of)) n ts few = integer_less n ts few
  into_less (Some (StructV packed fields)) n ts few = field_less fields n ts few
  into_less (Some (IntV w)) n ts few = token_less no_index n ts few
  into_less (Some PtrV) n ts few = token_less no_index n ts few
  into_less (Some VoidV) n ts few = token_less no_index n ts few
  into_less (Some (NamedV name)) n ts few = token_less no_index n ts few

  pub index_less : (into : Into) (n : ℕ) (ts : List TokenV) → length ts ≤ n → Less n (index_at known into ts)
  index_less (Whole of) n ts few = integer_less n ts few
  index_less (Inside of) n ts few = into_less (opened known of) n ts few
  index_less Faulty n ts few = integer_less n ts few

  abbrev Index : Type 0
  Index = Argument Name TypeV ConstantV

  passed_less : (n : ℕ) (ts : List TokenV) → 1 + length ts ≤ n → Less {A = Option Index} n (passed_tail ts)
  passed_less n ts few = then_less n (tail_at ts) (λ x. Ok (None, x.1)) (still_less n tail_at ts tail_keeps few) (λ x h. h)

  tail_less : (into : Option Into) (n : ℕ) (ts : List TokenV) → 1 + length ts ≤ n → Less n (index_or_tail known into ts)
  tail_less None n ts few = passed_less n ts few
  tail_less (Some into) n ts few =
      choose_less {A = Option Index} n (next_is begins_tail ts) (passed_tail ts) (some_index_at known into ts) (passed_less n ts few)
      (then_less n (index_at known into ts) (λ index. Ok (Some index.0, index.1)) (index_less into n ts (omega arith)) (λ x h. h))

  pub comma_index_less : (into : Option Into) → Shortens (behind_comma known into)
  comma_index_less into = shortens_by (behind_comma known into) (λ n ts few. then_less n (mark_at 44 ts) (λ comma. index_or_tail known into comma.1) (token_less _ n ts few) (λ x h. tail_less into n x.1 h))
