-- Printed functions spell them.
use Rattle.std.proofs.Common.{◌≡◌, ℕ, ◌<◌, length, true, false, List, [], ◌∷◌, ◌++◌, refl, sym, ap, subst, ◌∙◌, append_assoc, inl, arith}
use Rattle.std.specs.Prelude.{◌^◌, ◌+◌, map, codes}
use Rattle.std.proofs.lemmas.List.{length-append}
use Rattle.pv_base.specs.declared.name.Name.{Name}
use Rattle.ir_tree.specs.declared.items.Block.{Block}
use Rattle.ir_tree.specs.declared.items.Function.{Function}
use Rattle.ir_tree.specs.Table.{name_among}
use Rattle.ir_tree.specs.Trees.{TypeV, ConstantV}
use Rattle.ir_text.specs.Tokens.{TokenV}
use Rattle.ir_text.specs.Passed.{passed_unless, stops}
use Rattle.ir_text.specs.Tails.{a_note}
use Rattle.ir_text.specs.Types.{Known}
use Rattle.ir_text.specs.TypeSpelled.{◌▸◌, a_word, a_mark}
use Rattle.ir_grammar.specs.Scopes.{no_scope}
use Rattle.ir_grammar.specs.Headers.{Header, scope_of}
use Rattle.ir_grammar.specs.Items.{item_words, declared_function}
use Rattle.module_laws.specs.Heads.{a_head}
use Rattle.module_laws.specs.Blocks.{a_body}
use Rattle.module_laws.specs.Skipped.{some_attached}
use Rattle.module_laws.specs.ItemsSpelled.{a_declaration, a_definition, defined_function}
use Rattle.ir_printer.specs.Pieces.{Piece, Blank, LineEnd, Word, Mark, joined}
use Rattle.ir_printer.specs.Items.{head_pieces, block_pieces, function_pieces}
use Rattle.print_values.specs.Laws.{NamesFit, NamesReadBack, RegisterTypesReadBack, ResultTypesReadBack, TypesStand}
use Rattle.print_instrs.specs.Laws.{InstructionsReadBack, InstructionsStand}
use Rattle.print_functions.specs.Lines.{PrintedLines}
use Rattle.print_functions.specs.Laws.{DeclarationsReadBack, DefinitionsReadBack}
use Rattle.print_functions.proofs.Composing.{behind_blank, behind_end, before_end, as_pieces, as_spelled, in_turn, sound_front, sound_rest}
use Rattle.print_functions.proofs.Counting.{none_defined}
use Rattle.print_functions.proofs.Leaves.{none_passed, none_then, then_none, begin_printed, declare_printed, define_printed}
use Rattle.print_functions.proofs.Heads.{Room, room_behind_head, head_printed}
use Rattle.print_functions.proofs.Bodies.{body_printed}

abbrev FunctionV : Type 0
FunctionV = Function Name TypeV ConstantV

abbrev BlockV : Type 0
BlockV = Block Name TypeV ConstantV

-- ---- declarations

attached_none : some_attached []
attached_none = none_then [] (none_passed a_note) (inl refl)

declaration_of : (others : List Name) (h : Header) (ws : List TokenV) → a_head true others h ws → a_declaration others (declared_function h) ws
declaration_of others h ws s = record {
  parts = h;
  is = refl;
  spelled = none_then ws (none_passed a_note) (then_none ws s (none_then [] (none_passed (passed_unless (stops item_words false))) attached_none));
}

declared_lines : (others : List Name) (h : Header) → PrintedLines (a_head true others h) (head_pieces (declared_function h)) → PrintedLines (a_word (codes "declare") ▸ a_declaration others (declared_function h)) (function_pieces (declared_function h))
unfolding function_pieces
declared_lines others h head =
    before_end (in_turn (Word (codes "declare") ∷ []) (Blank ∷ head_pieces (declared_function h)) declare_printed (behind_blank (as_spelled (declaration_of others h) head)))

-- ---- definitions

definition_of : (known : Known) (others : List Name) (p : Header × List BlockV) (ws : List TokenV)
    → (a_head false others p.0 ▸ a_mark 123 ▸ a_body known (scope_of p.0.params) p.1) ws → a_definition known others (defined_function p) ws
definition_of known others p ws s = record {
  parts = p;
  is = refl;
  spelled = record {
    front = s.front;
    rest = s.rest;
    parts = s.parts;
    first_spells = s.first_spells;
    rest_spells = none_then s.rest (none_passed (passed_unless (stops [] false))) (none_then s.rest (none_passed a_note) s.rest_spells);
  };
}

in_four : (a b c d : List Piece) → a ++ (b ++ (c ++ d)) ≡ a ++ b ++ c ++ d
in_four a b c d = sym (append_assoc (a ++ b) c d ∙ append_assoc a b (c ++ d))

defined_lines : (known : Known) (others : List Name) (p : Header × List BlockV)
    → PrintedLines (a_head false others p.0) (head_pieces (defined_function p))
    → PrintedLines (a_body known (scope_of p.0.params) p.1) (joined (map block_pieces p.1) ++ (Mark 125 ∷ LineEnd ∷ []))
    → PrintedLines (a_word (codes "define") ▸ a_definition known others (defined_function p)) (function_pieces (defined_function p))
unfolding function_pieces
defined_lines known others p head body =
    let lines = joined (map block_pieces p.1) ++ (Mark 125 ∷ LineEnd ∷ []) in
    let named = head_pieces (defined_function p) in
    as_pieces (function_pieces (defined_function p)) (in_four (Word (codes "define") ∷ Blank ∷ named) (Blank ∷ Mark 123 ∷ LineEnd ∷ []) (joined (map block_pieces p.1)) (Mark 125 ∷ LineEnd ∷ []))
    (in_turn (Word (codes "define") ∷ []) (Blank ∷ (named ++ (Blank ∷ Mark 123 ∷ LineEnd ∷ lines))) define_printed
    (behind_blank (as_spelled (definition_of known others p)
    (in_turn named (Blank ∷ Mark 123 ∷ LineEnd ∷ lines) head
    (behind_blank (in_turn (Mark 123 ∷ []) (LineEnd ∷ lines) begin_printed (behind_end body)))))))

-- ---- both laws

fixed_room : (n : ℕ) → Room true no_scope n
fixed_room n = record { fresh = λ h. absurd cc; few = λ h. absurd cc }

first_room : (n : ℕ) → n < 2 ^ 62 → Room false no_scope n
first_room n few = record { fresh = λ h. none_defined; few = λ h. omega arith }

module _ (names_fit : NamesFit) (names_back : NamesReadBack) (registers_back : RegisterTypesReadBack) (types_stand : TypesStand) (results_back : ResultTypesReadBack) where
  pub declarations_back : DeclarationsReadBack
  declarations_back values others f ws sound new s =
      let h = s.parts in
      let behind = s.spelled.rest_spells in
      let sound_head = sound_front behind.front behind.rest s.spelled.rest behind.parts (sound_rest s.spelled.front s.spelled.rest ws s.spelled.parts sound) in
      let fresh : name_among h.name others ≡ false = subst (λ (g : FunctionV). name_among g.name others ≡ false) (sym s.is) new in
      let head = head_printed names_fit names_back registers_back types_stand results_back true values others h behind.front (fixed_room (length behind.front)) sound_head fresh behind.first_spells in
      subst (λ (g : FunctionV). PrintedLines (a_word (codes "declare") ▸ a_declaration others g) (function_pieces g)) s.is (declared_lines others h head)

  module _ (instructions_back : InstructionsReadBack) (instructions_stand : InstructionsStand) where
    pub definitions_back : DefinitionsReadBack
    definitions_back known values others f ws sound few new s =
        let p = s.parts in
        let t = s.spelled in
        let words = t.rest_spells in
        let notes = words.rest_spells in
        let brace = notes.rest_spells in
        let sound_head = sound_front t.front t.rest ws t.parts sound in
        let sound_words = sound_rest t.front t.rest ws t.parts sound in
        let sound_notes = sound_rest words.front words.rest t.rest words.parts sound_words in
        let sound_brace = sound_rest notes.front notes.rest words.rest notes.parts sound_notes in
        let sound_body = sound_rest brace.front brace.rest notes.rest brace.parts sound_brace in
        let size : length ws ≡ length t.front + length t.rest = ap (length {A = TokenV}) t.parts ∙ length-append t.front t.rest in
        let room = first_room (length t.front) (omega arith) in
        let behind = room_behind_head names_fit names_back false values p.0 t.front room sound_head t.first_spells in
        let next = behind.few refl in
        let fresh : name_among p.0.name others ≡ false = subst (λ (g : FunctionV). name_among g.name others ≡ false) (sym s.is) new in
        let head = head_printed names_fit names_back registers_back types_stand results_back false values others p.0 t.front room sound_head fresh t.first_spells in
        let body = body_printed names_fit names_back instructions_back instructions_stand known (scope_of p.0.params) p.1 brace.rest (behind.fresh refl) (omega arith) sound_body brace.rest_spells in
        subst (λ (g : FunctionV). PrintedLines (a_word (codes "define") ▸ a_definition known others g) (function_pieces g)) s.is (defined_lines known others p head body)
