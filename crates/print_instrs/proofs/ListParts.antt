-- Printed arms, indices, arguments and cases.
use Rattle.std.proofs.Common.{ℕ, Bool, List, [], ◌∷◌, ◌++◌, map, Option, Some, None, refl, sym, subst, append_assoc}
use Rattle.pv_base.specs.declared.name.Name.{Name}
use Rattle.ir_tree.specs.declared.instruction.Argument.{Argument}
use Rattle.ir_tree.specs.declared.instruction.Arm.{Arm}
use Rattle.ir_tree.specs.declared.instruction.Case.{Case}
use Rattle.ir_tree.specs.Trees.{TypeV, IntV, ArrayV, StructV, TypesV, ConstantV}
use Rattle.ir_text.specs.Tokens.{TokenV}
use Rattle.ir_text.specs.Constants.{width_of}
use Rattle.ir_text.specs.Lists.{behind_item, closed_list}
use Rattle.ir_text.specs.Operands.{a_constant}
use Rattle.ir_text.specs.Passed.{some_words}
use Rattle.ir_text.specs.Repeated.{each, each_under}
use Rattle.ir_text.specs.Spelled.{one_token}
use Rattle.ir_text.specs.Types.{Known}
use Rattle.ir_text.specs.TypeSpelled.{◌▸◌, a_mark}
use Rattle.ir_instr.specs.Parts.{fixed_type}
use Rattle.ir_instr.specs.Addresses.{Into, Whole, Inside, Faulty, opened, next_into}
use Rattle.ir_instr.specs.Calls.{begins_value}
use Rattle.ir_instr.specs.Control.{with_case}
use Rattle.ir_instr.specs.InstructionSpelled.{a_target, an_argument, an_arm, some_arms, ACase, AField, an_index_into, an_index, some_indices}
use Rattle.ir_printer.specs.Pieces.{Piece, Blank, Mark, led, separated, joined}
use Rattle.ir_printer.specs.Operands.{type_pieces, constant_pieces, operand_pieces, argument_pieces}
use Rattle.ir_printer.specs.Instructions.{arm_pieces, case_pieces}
use Rattle.print_values.specs.Printed.{Printed}
use Rattle.print_values.proofs.Composing.{printed_as}
use Rattle.print_values.proofs.Constants.{width_fits}
use Rattle.print_instrs.proofs.Below.{ValuesReadBack}
use Rattle.print_instrs.proofs.Printing.{Prints, also, also2, grouped, blank, trailed, nothing}
use Rattle.print_instrs.proofs.Tokens.{comma_mark, bracket_mark, closing_bracket, closing_parenthesis}
use Rattle.print_instrs.proofs.SingleTypes.{fixed_printed, register_printed}
use Rattle.print_instrs.proofs.Parts.{operand_printed, integer_argument_printed, name_printed, target_printed}

-- no words are passed over
pub no_words : (stop : TokenV → Bool) → Prints (some_words stop tt) []
no_words stop = nothing (record { value = []; front = []; rest = []; parts = refl; first_spells = refl; rest_spells = (refl, refl) })

module _ (v : ValuesReadBack) (known : Known) where
  -- ---- arguments

  pub argument_printed : (a : Argument Name TypeV ConstantV) → Prints (an_argument known a) (argument_pieces a)
  argument_printed a = also (register_printed v.registers_back a.of) (also (no_words begins_value) (blank (operand_printed v known a.of a.value)))

  arguments_behind : (all : List (Argument Name TypeV ConstantV)) → Prints (behind_item 41 (an_argument known) all) (led (map argument_pieces all) ++ Mark 41 ∷ [])
  arguments_behind [] = closing_parenthesis
  arguments_behind (a ∷ all) =
      subst (λ (ps : List Piece). Prints (behind_item 41 (an_argument known) (a ∷ all)) (Mark 44 ∷ Blank ∷ ps)) (sym (append_assoc (argument_pieces a) (led (map argument_pieces all)) (Mark 41 ∷ [])))
      (also comma_mark (blank (also (argument_printed a) (arguments_behind all))))

  pub arguments_printed : (all : List (Argument Name TypeV ConstantV)) → Prints (closed_list 41 (an_argument known) all) (separated (map argument_pieces all) ++ Mark 41 ∷ [])
  arguments_printed [] = closing_parenthesis
  arguments_printed (a ∷ all) =
      subst (λ (ps : List Piece). Prints (closed_list 41 (an_argument known) (a ∷ all)) ps) (sym (append_assoc (argument_pieces a) (led (map argument_pieces all)) (Mark 41 ∷ [])))
      (also (argument_printed a) (arguments_behind all))

  -- ---- arms

  arm_printed : (of : TypeV) (a : Arm Name ConstantV) → Prints (an_arm known of a) (arm_pieces a)
  arm_printed of a =
      grouped (grouped (grouped (also (also (also (also bracket_mark (blank (operand_printed v known of a.value))) (trailed comma_mark)) (name_printed v a.from)) (blank closing_bracket))))

  arms_behind : (of : TypeV) (all : List (Arm Name ConstantV)) → Prints (each (λ a. a_mark 44 ▸ an_arm known of a) all) (led (map arm_pieces all))
  arms_behind of [] = nothing refl
  arms_behind of (a ∷ all) = also (also comma_mark (blank (arm_printed of a))) (arms_behind of all)

  pub arms_printed : (of : TypeV) (all : List (Arm Name ConstantV)) → Prints (some_arms known of all) (separated (map arm_pieces all))
  arms_printed of [] = record { back = λ ws sound s. absurd s }
  arms_printed of (a ∷ all) = also (arm_printed of a) (arms_behind of all)

  -- ---- indices

  field_printed : (fields : TypesV) (a : Argument Name TypeV ConstantV) → Prints (AField known fields a) (argument_pieces a)
  field_printed fields a = record {
    back = λ ws sound s.
        let p = (also (fixed_printed v.registers_back (IntV 32)) (blank (operand_printed v known (IntV 32) a.value))).back ws sound s.spelled in
        subst (λ (of : TypeV). Printed (AField known fields a) (type_pieces of ++ Blank ∷ operand_pieces a.value)) (sym s.of)
        (printed_as (type_pieces (IntV 32) ++ Blank ∷ operand_pieces a.value) (λ us o. record { spelled = o; of = s.of; names = s.names }) p);
  }

  index_into_printed : (into : Option TypeV) (a : Argument Name TypeV ConstantV) → Prints (an_index_into known into a) (argument_pieces a)
  index_into_printed None a = integer_argument_printed v known a
  index_into_printed (Some (ArrayV count of)) a = integer_argument_printed v known a
  index_into_printed (Some (StructV packed fields)) a = field_printed fields a
  index_into_printed (Some other) a = record { back = λ ws sound s. absurd s }

  index_printed : (into : Into) (a : Argument Name TypeV ConstantV) → Prints (an_index known into a) (argument_pieces a)
  index_printed (Whole of) a = integer_argument_printed v known a
  index_printed (Inside of) a = index_into_printed (opened known of) a
  index_printed Faulty a = integer_argument_printed v known a

  indices_behind : (into : Into) (all : List (Argument Name TypeV ConstantV)) → Prints (each_under (λ into a. a_mark 44 ▸ an_index known into a) (next_into known) into all) (led (map argument_pieces all))
  indices_behind into [] = nothing refl
  indices_behind into (a ∷ all) = also (also comma_mark (blank (index_printed into a))) (indices_behind (next_into known into a) all)

  pub indices_printed : (of : TypeV) (all : List (Argument Name TypeV ConstantV)) → Prints (some_indices known of all) (led (map argument_pieces all))
  indices_printed of [] = record { back = λ ws sound s. absurd s }
  indices_printed of (a ∷ all) = also2 (also comma_mark (blank (index_printed (Whole of) a))) (indices_behind (Inside of) all)

  -- ---- cases

  constant_printed : (of : TypeV) (c : ConstantV) → Prints (a_constant known (width_of of) c) (constant_pieces c)
  constant_printed of c = let w = width_fits of in record { back = λ ws sound s. v.constants_back known (width_of of) c ws w.positive w.most sound s }

  case_printed : (of : TypeV) (earlier : List ℕ) (c : Case Name ConstantV) → Prints (ACase known of earlier c) (case_pieces of c)
  case_printed of earlier c = record {
    back = λ ws sound s.
        printed_as (case_pieces of c) (λ us o. record { spelled = o; fresh = s.fresh }) (spelled_case.back ws sound s.spelled);
  }
    where
      spelled_case : Prints (one_token (fixed_type of) tt ▸ a_constant known (width_of of) c.value ▸ a_mark 44 ▸ a_target c.to) (case_pieces of c)
      spelled_case = grouped (trailed (also (also (trailed (fixed_printed v.registers_back of)) (constant_printed of c.value)) (also comma_mark (blank (target_printed v c.to)))))

  pub cases_printed : (of : TypeV) (earlier : List ℕ) (all : List (Case Name ConstantV)) → Prints (each_under (ACase known of) with_case earlier all) (joined (map (case_pieces of) all))
  cases_printed of earlier [] = nothing refl
  cases_printed of earlier (c ∷ all) = also (case_printed of earlier c) (cases_printed of (with_case earlier c) all)
