-- What follows from the laws of reading instructions.
use Rattle.std.specs.Prelude.{◌≡◌, ℕ, List, ◌++◌}
use Rattle.pv_base.specs.declared.name.Name.{Name}
use Rattle.ir_tree.specs.declared.instruction.Instruction.{Instruction}
use Rattle.ir_tree.specs.Trees.{TypeV, ConstantV}
use Rattle.ir_text.specs.Tokens.{TokenV}
use Rattle.ir_text.specs.Types.{Known}
use Rattle.ir_instr.specs.InstructionSpelled.{an_instruction}
use Rattle.instr_laws.specs.Behind.{BehindInstruction}

-- the same tokens spell at most one instruction
abbrev pub OneInstruction : Type 0
OneInstruction =
    (known : Known) (next : ℕ) (defined : List Name) (a b : Instruction Name TypeV ConstantV) (ws : List TokenV)
    → an_instruction known next defined a ws → an_instruction known next defined b ws → a ≡ b

-- in a row of tokens an instruction ends at one place only, where what may stand behind one does
abbrev pub OneEnd : Type 0
OneEnd =
    (known : Known) (next : ℕ) (defined : List Name) (a b : Instruction Name TypeV ConstantV) (ws vs after others : List TokenV)
    → an_instruction known next defined a ws → an_instruction known next defined b vs → BehindInstruction after → BehindInstruction others
    → ws ++ after ≡ vs ++ others → (a ≡ b) × (ws ≡ vs)
