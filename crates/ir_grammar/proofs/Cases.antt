-- Small texts, token by token, and what is read of them.
use Rattle.std.proofs.Common.{◌≡◌, ℕ, refl, Ok, Err, List, [], ◌∷◌}
use Rattle.std.specs.Prelude.{codes, false, None, Some}
use Rattle.pv_base.specs.declared.name.Name.TheVariants.{Named, Numbered}
use Rattle.ir_lex.specs.declared.token.TokenKind.{TokenKind}
use Rattle.ir_lex.specs.declared.token.TokenKind.TheVariants as kind
use Rattle.ir_lex.specs.declared.token.Cause.TheVariants as causes
use Rattle.ir_lex.specs.Classes.{is_digit}
use Rattle.ir_lex.specs.Spelling.{name_of, number_after}
use Rattle.ir_tree.specs.declared.instruction.Operand.TheVariants as operand
use Rattle.ir_tree.specs.declared.instruction.Instruction.TheVariants as instruction
use Rattle.ir_tree.specs.Trees.{IntV, IntegerC}
use Rattle.ir_text.specs.declared.fault.Fault.TheVariants.{At, Ended}
use Rattle.ir_text.specs.Tokens.{TokenV, among, is_refused, blamed}
use Rattle.ir_text.specs.Constants.{integer_in, word_constant}
use Rattle.ir_text.specs.NestedConstants.{constant_at, constant_to, constant_rule}
use Rattle.ir_text.specs.Passed.{may_pass, passed_at, is_int_word, stops_at, group_from}
use Rattle.ir_text.specs.Reading.{token_by, next_is}
use Rattle.ir_text.specs.Repeated.{repeated_to, repeated_under}
use Rattle.ir_text.specs.Types.{Known, int_type, word_type, type_rule, type_to, type_at}
use Rattle.ir_text.specs.Lists.{list_at}
use Rattle.ir_instr.specs.Instructions.{effect_at, marked_call}
use Rattle.ir_instr.specs.Words.{meaning_of}
use Rattle.ir_grammar.specs.Headers.{entries_to}
use Rattle.ir_grammar.specs.Items.{named_body_at, worded_item_at}
use Rattle.ir_grammar.specs.NamedTypes.{definitions, bodies_read, types_in, bodies_in, known_in}
use Rattle.ir_grammar.specs.PassedItems.{to_group}
use Rattle.ir_grammar.specs.Texts.{wrong_among, first_wrong, unless_wrong, first_fault, module_at, module_in}

no_types : Known
no_types name = None

at : ℕ → TokenKind → List ℕ → TokenV
at line k text = record { kind = k; text = text; line = line }

ret_zero : List TokenV
ret_zero =
    at 1 kind.Word (codes "define") ∷ at 1 kind.Word (codes "i32") ∷ at 1 kind.GlobalName (codes "@main") ∷ at 1 kind.Punct (codes "(") ∷ at 1 kind.Punct (codes ")") ∷ at 1 kind.Punct (codes "{")
    ∷ at 2 kind.Word (codes "ret") ∷ at 2 kind.Word (codes "i32") ∷ at 2 kind.Integer (codes "0") ∷ at 3 kind.Punct (codes "}") ∷ []

reads_ret_zero : module_at [] (Ok (tt, [])) no_types ret_zero ≡ Ok (
  record {
    types = [];
    globals = [];
    functions = record {
      name = Named (codes "main");
      result = IntV 32;
      params = [];
      variadic = false;
      blocks = record { label = Numbered 0; instructions = instruction.Return (Some (record { of = IntV 32; value = operand.Constant (IntegerC (record { width = 32; bits = 0 })) })) ∷ [] } ∷ [];
      declared = false;
    } ∷ [];
  },
  [],
)
unfolding no_types at ret_zero is_digit name_of number_after among is_refused blamed integer_in word_constant constant_at constant_to constant_rule may_pass passed_at is_int_word stops_at token_by next_is repeated_to repeated_under int_type word_type effect_at marked_call meaning_of entries_to worded_item_at
reads_ret_zero = refl

-- a label a second time
two_labels : List TokenV
two_labels =
    at 1 kind.Word (codes "define") ∷ at 1 kind.Word (codes "void") ∷ at 1 kind.GlobalName (codes "@f") ∷ at 1 kind.Punct (codes "(") ∷ at 1 kind.Punct (codes ")") ∷ at 1 kind.Punct (codes "{")
    ∷ at 2 kind.Label (codes "a:") ∷ at 3 kind.Word (codes "unreachable") ∷ at 4 kind.Label (codes "a:") ∷ at 5 kind.Word (codes "unreachable") ∷ at 6 kind.Punct (codes "}") ∷ []

reads_two_labels : module_at [] (Ok (tt, [])) no_types two_labels ≡ Err (At 4 causes.Duplicate)
unfolding no_types at two_labels is_digit name_of number_after among is_refused blamed integer_in word_constant constant_at constant_to constant_rule may_pass passed_at is_int_word stops_at token_by next_is repeated_to repeated_under int_type word_type effect_at marked_call meaning_of entries_to worded_item_at
reads_two_labels = refl

-- the unnamed parameter has the number 0, and the entry block 1
next_label : List ℕ → List TokenV
next_label label =
    at 1 kind.Word (codes "define") ∷ at 1 kind.Word (codes "void") ∷ at 1 kind.GlobalName (codes "@f") ∷ at 1 kind.Punct (codes "(") ∷ at 1 kind.Word (codes "i32") ∷ at 1 kind.Punct (codes ")") ∷ at 1 kind.Punct (codes "{")
    ∷ at 2 kind.Word (codes "unreachable") ∷ at 3 kind.Label label ∷ at 4 kind.Word (codes "unreachable") ∷ []

reads_next_label : module_at [] (Ok (tt, [])) no_types (next_label (codes "2:")) ≡ Err Ended
unfolding no_types at next_label is_digit name_of number_after among is_refused blamed integer_in word_constant constant_at constant_to constant_rule may_pass passed_at is_int_word stops_at token_by next_is repeated_to repeated_under int_type word_type effect_at marked_call meaning_of entries_to worded_item_at
reads_next_label = refl

reads_other_label : module_at [] (Ok (tt, [])) no_types (next_label (codes "1:")) ≡ Err (At 3 causes.Name)
unfolding no_types at next_label is_digit name_of number_after among is_refused blamed integer_in word_constant constant_at constant_to constant_rule may_pass passed_at is_int_word stops_at token_by next_is repeated_to repeated_under int_type word_type effect_at marked_call meaning_of entries_to worded_item_at
reads_other_label = refl

-- a body with a fault in it, in what is passed over, before an item with one
two_faults : List TokenV
two_faults =
    at 1 kind.Word (codes "attributes") ∷ at 1 kind.Punct (codes "#") ∷ at 1 kind.Integer (codes "0") ∷ at 1 kind.Punct (codes "=") ∷ at 1 kind.Punct (codes "{")
    ∷ at 2 kind.LocalName (codes "%x") ∷ at 2 kind.Punct (codes "=") ∷ at 2 kind.Word (codes "type") ∷ at 2 kind.Punct (codes "{") ∷ at 2 kind.Word (codes "i0") ∷ at 2 kind.Punct (codes "}")
    ∷ at 3 kind.Punct (codes "}") ∷ at 4 kind.Word (codes "nothing") ∷ []

meets_two_faults : unless_wrong (first_fault two_faults) (module_in two_faults) ≡ Err (At 2 causes.Width)
unfolding at two_faults first_wrong wrong_among definitions bodies_read bodies_in types_in known_in named_body_at type_at type_to type_rule list_at to_group group_from is_digit name_of number_after among is_refused blamed is_int_word token_by next_is repeated_to repeated_under int_type word_type worded_item_at
meets_two_faults = refl
