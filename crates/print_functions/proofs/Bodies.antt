-- The bodies of functions: instructions on their lines, and blocks.
use Rattle.std.proofs.Common.{◌<◌, List, [], ◌∷◌, ◌++◌, sym, subst, append_assoc, inl, inr}
use Rattle.std.specs.Prelude.{◌^◌, map}
use Rattle.pv_base.specs.declared.name.Name.{Name}
use Rattle.ir_tree.specs.declared.instruction.Instruction.{Instruction}
use Rattle.ir_tree.specs.declared.items.Block.{Block}
use Rattle.ir_tree.specs.Trees.{TypeV, ConstantV}
use Rattle.ir_text.specs.Tokens.{TokenV}
use Rattle.ir_text.specs.Repeated.{each_under}
use Rattle.ir_text.specs.Types.{Known}
use Rattle.ir_text.specs.TypeSpelled.{◌▸◌, a_mark}
use Rattle.ir_grammar.specs.Scopes.{Scope, defining, after_instruction, after_block}
use Rattle.module_laws.specs.Blocks.{a_step, some_instructions, a_block, a_body}
use Rattle.ir_printer.specs.Pieces.{LineEnd, Label, Mark, joined}
use Rattle.ir_printer.specs.Items.{instruction_line, block_pieces}
use Rattle.print_values.specs.Printed.{AreSound}
use Rattle.print_values.specs.Laws.{NamesFit, NamesReadBack}
use Rattle.print_instrs.specs.Laws.{InstructionsReadBack, InstructionsStand}
use Rattle.print_functions.specs.Lines.{PrintedLines}
use Rattle.print_functions.proofs.Composing.{inside, behind_blank, behind_end, before_end, as_pieces, as_spelled, in_turn, sound_front, sound_rest, each_printed}
use Rattle.print_functions.proofs.Naming.{Definable, label_fits, label_printed}
use Rattle.print_functions.proofs.Counting.{Fresh, next_definable}
use Rattle.print_functions.proofs.Leaves.{end_printed}

abbrev InstructionV : Type 0
InstructionV = Instruction Name TypeV ConstantV

abbrev BlockV : Type 0
BlockV = Block Name TypeV ConstantV

module _ (names_fit : NamesFit) (names_back : NamesReadBack) (instructions_back : InstructionsReadBack) (instructions_stand : InstructionsStand) (known : Known) where
  step_printed : (scope : Scope) (i : InstructionV) (ws : List TokenV) → AreSound ws → a_step known scope i ws → PrintedLines (a_step known scope i) (instruction_line i)
  step_printed scope i ws sound s = before_end (behind_blank (behind_blank (inside (instructions_stand i).one_line (instructions_back known scope.next scope.defined i ws sound s))))

  steps_printed : (scope : Scope) (all : List InstructionV) (ws : List TokenV) → AreSound ws → some_instructions known scope all ws → PrintedLines (some_instructions known scope all) (joined (map instruction_line all))
  steps_printed scope all ws sound s = each_printed (a_step known) after_instruction instruction_line step_printed scope all ws sound s

  -- a block whose label can be defined
  block_with : (scope : Scope) (b : BlockV) (ws : List TokenV) → Definable scope b.label → AreSound ws → some_instructions known (defining scope b.label) b.instructions ws → PrintedLines (a_block known scope b) (block_pieces b)
  block_with scope b ws label sound s =
      in_turn (Label b.label ∷ []) (LineEnd ∷ joined (map instruction_line b.instructions))
      (label_printed names_fit names_back scope b.label label)
      (behind_end (steps_printed (defining scope b.label) b.instructions ws sound s))

  block_printed : (scope : Scope) (b : BlockV) (ws : List TokenV) → AreSound ws → a_block known scope b ws → PrintedLines (a_block known scope b) (block_pieces b)
  block_printed scope b ws sound s =
      block_with scope b s.rest (label_fits names_fit names_back scope b.label s.front (sound_front s.front s.rest ws s.parts sound) s.first_spells) (sound_rest s.front s.rest ws s.parts sound) s.rest_spells

  -- blocks, and the closing brace on its line
  abbrev Ending : Scope → List BlockV → List TokenV → Type 0
  Ending scope others = each_under (a_block known) after_block scope others ▸ a_mark 125

  ending_printed : (scope : Scope) (others : List BlockV) (ws : List TokenV) → AreSound ws → Ending scope others ws → PrintedLines (Ending scope others) (joined (map block_pieces others) ++ (Mark 125 ∷ LineEnd ∷ []))
  ending_printed scope others ws sound s =
      in_turn (joined (map block_pieces others)) (Mark 125 ∷ LineEnd ∷ [])
      (each_printed (a_block known) after_block block_pieces block_printed scope others s.front (sound_front s.front s.rest ws s.parts sound) s.first_spells)
      (before_end end_printed)

  whole_printed : (scope : Scope) (entry : BlockV) (others : List BlockV) → PrintedLines (a_block known scope entry) (block_pieces entry) → PrintedLines (Ending (after_block scope entry) others) (joined (map block_pieces others) ++ (Mark 125 ∷ LineEnd ∷ []))
      → PrintedLines (a_body known scope (entry ∷ others)) (joined (map block_pieces (entry ∷ others)) ++ (Mark 125 ∷ LineEnd ∷ []))
  whole_printed scope entry others first behind =
      as_pieces (joined (map block_pieces (entry ∷ others)) ++ (Mark 125 ∷ LineEnd ∷ [])) (sym (append_assoc (block_pieces entry) (joined (map block_pieces others)) (Mark 125 ∷ LineEnd ∷ [])))
      (as_spelled (λ us s. inl s) (in_turn (block_pieces entry) (joined (map block_pieces others) ++ (Mark 125 ∷ LineEnd ∷ [])) first behind))

  -- the label of the entry block is printed, where it was implied too
  pub body_printed : (scope : Scope) (blocks : List BlockV) (ws : List TokenV) → Fresh scope → scope.next < 2 ^ 63 → AreSound ws → a_body known scope blocks ws → PrintedLines (a_body known scope blocks) (joined (map block_pieces blocks) ++ (Mark 125 ∷ LineEnd ∷ []))
  body_printed scope [] ws fresh few sound s = absurd s
  body_printed scope (entry ∷ others) ws fresh few sound (inl s) =
      whole_printed scope entry others
      (block_printed scope entry s.front (sound_front s.front s.rest ws s.parts sound) s.first_spells)
      (ending_printed (after_block scope entry) others s.rest (sound_rest s.front s.rest ws s.parts sound) s.rest_spells)
  body_printed scope (entry ∷ others) ws fresh few sound (inr s) =
      let t = s.2 in
      whole_printed scope entry others
      (block_with scope entry t.front (subst (Definable scope) s.0 (next_definable scope fresh few)) (sound_front t.front t.rest ws t.parts sound) t.first_spells)
      (ending_printed (after_block scope entry) others t.rest (sound_rest t.front t.rest ws t.parts sound) t.rest_spells)
