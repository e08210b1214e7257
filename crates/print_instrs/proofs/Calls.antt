-- Printed calls.
use Rattle.std.proofs.Common.{◌≡◌, ℕ, Bool, true, false, List, [], ◌∷◌, ◌++◌, Option, Some, None, Ok, refl, ap, subst}
use Rattle.std.specs.Prelude.{codes}
use Rattle.std.proofs.Common.{inl}
use Rattle.pv_base.specs.declared.name.Name.{Name}
use Rattle.ir_lex.specs.declared.token.TokenKind.{TokenKind}
use Rattle.ir_lex.specs.declared.token.TokenKind.TheVariants as kind
use Rattle.ir_tree.specs.declared.instruction.Argument.{Argument}
use Rattle.ir_tree.specs.declared.instruction.Callee.{Callee}
use Rattle.ir_tree.specs.declared.instruction.Callee.TheVariants as callee
use Rattle.ir_tree.specs.declared.instruction.Instruction.TheVariants as instruction
use Rattle.ir_tree.specs.Trees.{TypeV, ConstantV}
use Rattle.ir_text.specs.Tokens.{TokenV}
use Rattle.ir_text.specs.Leaves.{spelled_name}
use Rattle.ir_text.specs.Passed.{some_words, stops}
use Rattle.ir_text.specs.Repeated.{Both}
use Rattle.ir_text.specs.Spelled.{one_token}
use Rattle.ir_text.specs.Tails.{some_tails}
use Rattle.ir_text.specs.Types.{Known}
use Rattle.ir_text.specs.TypeSpelled.{◌▸◌, a_word}
use Rattle.ir_instr.specs.Words.{opcodes}
use Rattle.ir_instr.specs.Calls.{answer_type, points, called_by, called}
use Rattle.ir_instr.specs.InstructionSpelled.{some_markers, a_function_type, a_call, an_instruction}
use Rattle.ir_printer.specs.Pieces.{Blank, Word, Dots, Global, Local}
use Rattle.ir_printer.specs.Operands.{type_pieces}
use Rattle.ir_printer.specs.Instructions.{callee_piece, variadic_pieces, called_pieces, instruction_pieces}
use Rattle.print_tokens.specs.Standing.{NameFits}
use Rattle.print_values.specs.Printed.{IsSound, Printed}
use Rattle.print_values.proofs.Composing.{one_sound}
use Rattle.print_instrs.proofs.Below.{ValuesReadBack}
use Rattle.print_instrs.proofs.Printing.{Prints, also, grouped, grouped4, blank, nothing, no_tails, closed_by}
use Rattle.print_instrs.proofs.Tokens.{word, comma_mark, parenthesis_mark, closing_parenthesis, one_fits, local_fits, global_fits}
use Rattle.print_instrs.proofs.SingleTypes.{answer_printed}
use Rattle.print_instrs.proofs.Parts.{result_printed}
use Rattle.print_instrs.proofs.ListParts.{no_words, arguments_printed}

-- ---- the function type

dots_printed : Prints (one_token points tt) (Dots ∷ [])
dots_printed = record {
  back = λ ws sound s. record {
    spelled = λ line. record { token = _; parts = refl; is = refl };
    fits = one_fits Dots tt;
  };
}

function_type_printed : (variadic : Bool) → Prints (a_function_type variadic) (variadic_pieces variadic)
function_type_printed false = nothing refl
function_type_printed true = blank (also parenthesis_mark (also (word (codes "ptr") refl) (also comma_mark (blank (also dots_printed closing_parenthesis)))))

-- ---- the callee

module _ (v : ValuesReadBack) where
  -- a callee that is printed is spelled
  callee_printed_by : (variadic : Bool) (k : TokenKind) (t : TokenV) (what : Callee Name) → t.kind ≡ k → IsSound t → called_by variadic k t ≡ Ok what → Printed (one_token (called variadic) what) (callee_piece what ∷ [])
  callee_printed_by variadic kind.GlobalName t what is sound e =
      let whole : callee.Function (spelled_name t) ≡ what = cc in
      subst (λ (c : Callee Name). Printed (one_token (called variadic) c) (callee_piece c ∷ [])) whole (record {
        spelled = λ line. record { token = _; parts = refl; is = ap (λ (n : Name). Ok (callee.Function n)) ((v.names_back (spelled_name t) fits).global line) };
        fits = one_fits (Global (spelled_name t)) fits;
      })
    where
      fits : NameFits (spelled_name t)
      fits = global_fits v.names_fit v.names_back t (spelled_name t) sound is refl
  callee_printed_by false kind.LocalName t what is sound e =
      let whole : callee.Pointer (spelled_name t) ≡ what = cc in
      subst (λ (c : Callee Name). Printed (one_token (called false) c) (callee_piece c ∷ [])) whole (record {
        spelled = λ line. record { token = _; parts = refl; is = ap (λ (n : Name). Ok (callee.Pointer n)) ((v.names_back (spelled_name t) fits).local line) };
        fits = one_fits (Local (spelled_name t)) fits;
      })
    where
      fits : NameFits (spelled_name t)
      fits = local_fits v.names_fit v.names_back t (spelled_name t) sound (record { kind_is = is; spells = refl })
  callee_printed_by true kind.LocalName t what is sound e = absurd cc
  callee_printed_by false kind.Word t what is sound e = absurd cc
  callee_printed_by true kind.Word t what is sound e = absurd cc
  callee_printed_by false kind.Punct t what is sound e = absurd cc
  callee_printed_by true kind.Punct t what is sound e = absurd cc
  callee_printed_by false kind.Label t what is sound e = absurd cc
  callee_printed_by true kind.Label t what is sound e = absurd cc
  callee_printed_by false kind.Integer t what is sound e = absurd cc
  callee_printed_by true kind.Integer t what is sound e = absurd cc
  callee_printed_by false kind.Text t what is sound e = absurd cc
  callee_printed_by true kind.Text t what is sound e = absurd cc

  callee_printed : (variadic : Bool) (what : Callee Name) → Prints (one_token (called variadic) what) (callee_piece what ∷ [])
  callee_printed variadic what = record { back = λ ws sound s. callee_printed_by variadic s.token.kind s.token what refl (one_sound sound s) s.is }

  -- ---- calls

  no_end : Both (some_words (stops opcodes false) tt) (some_tails tt) []
  no_end = record {
    front = [];
    rest = [];
    parts = refl;
    first_spells = record { value = []; front = []; rest = []; parts = refl; first_spells = refl; rest_spells = (refl, refl) };
    rest_spells = no_tails;
  }

  module _ (known : Known) where
    call_printed : (to : Option Name) (of : TypeV) (variadic : Bool) (what : Callee Name) (arguments : List (Argument Name TypeV ConstantV))
        → Prints (a_call known to of variadic what arguments) (((Word (codes "call") ∷ Blank ∷ type_pieces of) ++ variadic_pieces variadic) ++ called_pieces what arguments)
    call_printed to of variadic what arguments =
        grouped4 (grouped (also (also head (function_type_printed variadic)) (blank (also (callee_printed variadic what) (also parenthesis_mark (closed_by no_end (arguments_printed v known arguments)))))))
      where
        head : Prints (some_markers ▸ a_word (codes "call") ▸ some_words (stops [] true) tt ▸ one_token (answer_type to) of) (Word (codes "call") ∷ Blank ∷ type_pieces of)
        head = also (nothing (inl refl)) (also (word (codes "call") refl) (also (no_words (stops [] true)) (blank (answer_printed v.registers_back v.results_back to of))))

    module _ (next : ℕ) (defined : List Name) where
      pub call_form_printed : (to : Option Name) (of : TypeV) (variadic : Bool) (what : Callee Name) (arguments : List (Argument Name TypeV ConstantV))
          → Prints (an_instruction known next defined (instruction.Call to of variadic what arguments)) (instruction_pieces (instruction.Call to of variadic what arguments))
      unfolding instruction_pieces
      call_form_printed None of variadic what arguments = call_printed None of variadic what arguments
      call_form_printed (Some to) of variadic what arguments = also (result_printed v known next defined to) (blank (call_printed (Some to) of variadic what arguments))
