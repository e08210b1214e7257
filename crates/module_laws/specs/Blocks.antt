-- How the bodies of functions are spelled.
use Rattle.std.specs.Prelude.{◌≡◌, not, List, [], ◌∷◌}
use Rattle.std.proofs.Common.{◌⊎◌}
use Rattle.pv_base.specs.declared.name.Name.{Name}
use Rattle.pv_base.specs.declared.name.Name.TheVariants.{Numbered}
use Rattle.ir_tree.specs.declared.instruction.Instruction.{Instruction}
use Rattle.ir_tree.specs.declared.items.Block.{Block}
use Rattle.ir_tree.specs.Trees.{TypeV, ConstantV}
use Rattle.ir_text.specs.Tokens.{TokenV}
use Rattle.ir_text.specs.Choice.{Opens}
use Rattle.ir_text.specs.Repeated.{each_under}
use Rattle.ir_text.specs.Spelled.{one_token}
use Rattle.ir_text.specs.Types.{Known}
use Rattle.ir_text.specs.TypeSpelled.{◌▸◌, a_mark}
use Rattle.ir_instr.specs.InstructionSpelled.{an_instruction}
use Rattle.ir_grammar.specs.Scopes.{Scope, defining, after_instruction, after_block}
use Rattle.ir_grammar.specs.Bodies.{is_label, new_label}

module _ (known : Known) where
  abbrev pub a_step : Scope → Instruction Name TypeV ConstantV → List TokenV → Type 0
  a_step scope = an_instruction known scope.next scope.defined

  -- instructions, one after the other
  abbrev pub some_instructions : Scope → List (Instruction Name TypeV ConstantV) → List TokenV → Type 0
  some_instructions scope = each_under a_step after_instruction scope

  -- name: and instructions
  abbrev pub a_block : Scope → Block Name TypeV ConstantV → List TokenV → Type 0
  a_block scope b = one_token (new_label scope) b.label ▸ some_instructions (defining scope b.label) b.instructions

  -- Blocks and the closing brace. The label of the entry block may be left out, where none stands first: it is then the
  -- next number.
  abbrev pub a_body : Scope → List (Block Name TypeV ConstantV) → List TokenV → Type 0
  a_body scope [] ws = ⊥
  a_body scope (entry ∷ others) ws =
      (a_block scope entry ▸ each_under a_block after_block (after_block scope entry) others ▸ a_mark 125) ws
      ⊎ ((Numbered scope.next ≡ entry.label) × Opens (λ t. not (is_label t)) ws × (some_instructions (defining scope entry.label) entry.instructions ▸ each_under a_block after_block (after_block scope entry) others ▸ a_mark 125) ws)
