-- Printed parts of instructions: operands, arguments, labels, pointers, results.
use Rattle.std.proofs.Common.{◌≡◌, ℕ, Bool, true, false, cond, List, [], ◌∷◌, ◌++◌, Ok, Err, refl, ap, subst, ◌∙◌}
use Rattle.std.specs.Prelude.{codes}
use Rattle.pv_base.specs.declared.name.Name.{Name}
use Rattle.ir_lex.specs.declared.token.TokenKind.{TokenKind}
use Rattle.ir_lex.specs.declared.token.TokenKind.TheVariants as kind
use Rattle.ir_lex.specs.declared.token.Cause.TheVariants as causes
use Rattle.ir_tree.specs.declared.instruction.Operand.{Operand}
use Rattle.ir_tree.specs.declared.instruction.Argument.{Argument}
use Rattle.ir_tree.specs.Trees.{TypeV, PtrV, ConstantV}
use Rattle.ir_text.specs.Tokens.{TokenV}
use Rattle.ir_text.specs.Leaves.{local}
use Rattle.ir_text.specs.Operands.{an_operand}
use Rattle.ir_text.specs.Repeated.{Both}
use Rattle.ir_text.specs.Spelled.{one_token}
use Rattle.ir_text.specs.Types.{Known}
use Rattle.ir_text.specs.TypeSpelled.{a_word}
use Rattle.ir_instr.specs.InstructionSpelled.{InMemory, a_target, a_pointer, an_integer_argument, a_result}
use Rattle.ir_instr.specs.Instructions.{definable, defined_by, defined_name}
use Rattle.ir_printer.specs.Pieces.{Piece, Blank, Word, Mark, Local}
use Rattle.ir_printer.specs.Operands.{type_pieces, operand_pieces, argument_pieces}
use Rattle.ir_printer.specs.Instructions.{assigned, value_pieces}
use Rattle.print_values.proofs.Composing.{one_sound, printed_as}
use Rattle.print_instrs.proofs.Below.{ValuesReadBack}
use Rattle.print_instrs.proofs.Printing.{Tokens, Prints, also, also2, blank}
use Rattle.print_instrs.proofs.Tokens.{IsLocal, is_small_word, one_fits, word, equals_mark, local_fits, local_printed}
use Rattle.print_instrs.proofs.SingleTypes.{fixed_printed, integer_printed}

-- ---- results

-- a token that a definable name may stand for
record Defines (next : ℕ) (defined : List Name) (to : Name) (t : TokenV) : Type 0 where
  names : IsLocal to t
  free : definable next defined to ≡ Ok to

passed_name : (a b : Bool) (name to : Name) → cond a (Err causes.Name) (cond b (Err causes.Duplicate) (Ok name)) ≡ Ok to → name ≡ to
passed_name true b name to e = absurd cc
passed_name false true name to e = absurd cc
passed_name false false name to e = cc

defines_by : (next : ℕ) (defined : List Name) (k : TokenKind) (t : TokenV) (to : Name) → t.kind ≡ k → defined_by next defined k t ≡ Ok to → Defines next defined to t
defines_by next defined kind.LocalName t to is e =
    let same = passed_name _ _ _ to e in
    record { names = record { kind_is = is; spells = same }; free = subst (λ (n : Name). definable next defined n ≡ Ok to) same e }
defines_by next defined kind.Word t to is e = absurd cc
defines_by next defined kind.Punct t to is e = absurd cc
defines_by next defined kind.GlobalName t to is e = absurd cc
defines_by next defined kind.Label t to is e = absurd cc
defines_by next defined kind.Integer t to is e = absurd cc
defines_by next defined kind.Text t to is e = absurd cc

module _ (v : ValuesReadBack) (known : Known) (next : ℕ) (defined : List Name) (to : Name) where
  defined_printed : Prints (one_token (defined_name next defined) to) (Local to ∷ [])
  defined_printed = record {
    back = λ ws sound s.
        let one = defines_by next defined s.token.kind s.token to refl s.is in
        let fits = local_fits v.names_fit v.names_back s.token to (one_sound sound s) one.names in
        record {
          spelled = λ line. record { token = _; parts = refl; is = ap (definable next defined) ((v.names_back to fits).local line) ∙ one.free };
          fits = one_fits (Local to) fits;
        };
  }

  pub result_printed : Prints (a_result known next defined to) (Local to ∷ Blank ∷ Mark 61 ∷ [])
  result_printed = also defined_printed (blank equals_mark)

  -- %r = WORD
  pub assigned_printed : {a : Tokens} (w : List ℕ) → Prints a (Word w ∷ []) → Prints (Both (a_result known next defined to) a) (assigned to w)
  assigned_printed w p = also result_printed (blank p)

  pub led_by : {a : Tokens} {ps : List Piece} (w : List ℕ) → is_small_word w ≡ true → Prints a ps → Prints (Both (a_result known next defined to) (Both (a_word w) a)) (assigned to w ++ ps)
  led_by w small others = also2 (assigned_printed w (word w small)) others

-- ---- operands with their types

module _ (v : ValuesReadBack) where
  pub name_printed : (name : Name) → Prints (one_token local name) (Local name ∷ [])
  name_printed name = local_printed v.names_fit v.names_back name

  -- label %name
  pub target_printed : (name : Name) → Prints (a_target name) (Word (codes "label") ∷ Blank ∷ Local name ∷ [])
  target_printed name = also (word (codes "label") refl) (blank (name_printed name))

module _ (v : ValuesReadBack) (known : Known) where
  pub operand_printed : (of : TypeV) (value : Operand Name ConstantV) → Prints (an_operand known of value) (operand_pieces value)
  operand_printed of value = record { back = λ ws sound s. v.operands_back known of value ws sound s }

  pub pointer_printed : (value : Operand Name ConstantV) → Prints (a_pointer known value) (Word (codes "ptr") ∷ Blank ∷ operand_pieces value)
  unfolding type_pieces
  pointer_printed value = also (fixed_printed v.registers_back PtrV) (blank (operand_printed PtrV value))

  pub integer_argument_printed : (a : Argument Name TypeV ConstantV) → Prints (an_integer_argument known a) (argument_pieces a)
  integer_argument_printed a = also (integer_printed v.registers_back a.of) (blank (operand_printed a.of a.value))

  -- ` T A`, whatever the type's token
  pub value_printed : {a : Tokens} (of : TypeV) (value : Operand Name ConstantV) → Prints a (type_pieces of) → Prints (Both a (an_operand known of value)) (value_pieces of value)
  value_printed of value p = also (blank p) (blank (operand_printed of value))

  pub memory_printed : (of : TypeV) → Prints (InMemory known of) (type_pieces of)
  memory_printed of = record {
    back = λ ws sound s.
        printed_as (type_pieces of) (λ us o. record { spelled = o; laid_out = s.laid_out }) (v.types_back known of ws sound s.spelled);
  }
