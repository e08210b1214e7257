-- Blocks, from their labels and instructions.
use Rattle.std.proofs.Common.{◌≡◌, List, Ok, refl, sym, ap, ◌∙◌}
use Rattle.std.specs.Prelude.{fold}
use Rattle.pv_base.specs.declared.name.Name.{Name}
use Rattle.ir_tree.specs.declared.instruction.Instruction.{Instruction}
use Rattle.ir_tree.specs.declared.items.Block.{Block}
use Rattle.ir_tree.specs.Trees.{TypeV, ConstantV}
use Rattle.ir_text.specs.declared.fault.ReadEnd.{ReadEnd}
use Rattle.ir_text.specs.declared.fault.ReadEnd.TheVariants as ends
use Rattle.ir_text.specs.Tokens.{TokenV}
use Rattle.ir_text.specs.Reading.{Fails}
use Rattle.ir_text.specs.Types.{Known}
use Rattle.ir_grammar.specs.Scopes.{Scope, defining, after_instruction, after_block}
use Rattle.ir_grammar.specs.Bodies.{instructions_at, block_behind}

module _ (known : Known) (s t : Scope) (label : Name) (is : t ≡ defining s label) (ts : List TokenV) where
  moved : instructions_at known (defining s label) ts ≡ instructions_at known t ts
  moved = ap (λ (u : Scope). instructions_at known u ts) (sym is)

  pub block_reads : (all : List (Instruction Name TypeV ConstantV)) (rest : List TokenV) → instructions_at known t ts ≡ Ok (all, rest) → block_behind known s label ts ≡ Ok ((let b : Block Name TypeV ConstantV = record { label = label; instructions = all } in b), rest)
  block_reads all rest h = rw (moved ∙ h) refl

  pub block_fails : (d : ReadEnd) → Fails d (instructions_at known t ts) → Fails d (block_behind known s label ts)
  block_fails ends.Memory h = tt
  block_fails (ends.Bad f) h = rw (moved ∙ h) refl

pub block_defines : (s t u : Scope) (b : Block Name TypeV ConstantV) → t ≡ defining s b.label → u ≡ fold after_instruction t b.instructions → u ≡ after_block s b
block_defines s t u b is e = e ∙ ap (λ (v : Scope). fold after_instruction v b.instructions) is
