-- The bodies of functions: blocks with labels, and their instructions.
use Rattle.std.specs.Prelude.{Bool, true, false, not, ◌||◌, List, ◌∷◌, Result, Ok, Err}
use Rattle.pv_base.specs.declared.name.Name.{Name}
use Rattle.pv_base.specs.declared.name.Name.TheVariants.{Numbered}
use Rattle.ir_lex.specs.declared.token.TokenKind.{TokenKind}
use Rattle.ir_lex.specs.declared.token.TokenKind.TheVariants as kind
use Rattle.ir_lex.specs.declared.token.Cause.{Cause}
use Rattle.ir_lex.specs.declared.token.Cause.TheVariants as causes
use Rattle.ir_tree.specs.declared.instruction.Instruction.{Instruction}
use Rattle.ir_tree.specs.declared.items.Block.{Block}
use Rattle.ir_tree.specs.Trees.{TypeV, ConstantV}
use Rattle.ir_text.specs.Tokens.{TokenV, is_mark}
use Rattle.ir_text.specs.Reading.{Reader, ◌>>=◌, gives, Meaning, token_by}
use Rattle.ir_text.specs.Choice.{choose}
use Rattle.ir_text.specs.Leaves.{mark_at, spelled_name}
use Rattle.ir_text.specs.Repeated.{repeated_under}
use Rattle.ir_text.specs.Types.{Known}
use Rattle.ir_instr.specs.Instructions.{definable, instruction_at}
use Rattle.ir_grammar.specs.Scopes.{Scope, defining, after_instruction, after_block}

abbrev pub kind_is_label : TokenKind → Bool
kind_is_label kind.Label = true
kind_is_label _ = false

abbrev pub is_label : TokenV → Bool
is_label t = kind_is_label t.kind

abbrev pub new_label_by : Scope → TokenKind → TokenV → Result Name Cause
new_label_by scope kind.Label t = definable scope.next scope.defined (spelled_name t)
new_label_by scope _ t = Err causes.Name

-- name:, the first time; a number is the counter's
abbrev pub new_label : Scope → Meaning Name
new_label scope t = new_label_by scope t.kind t

-- an instruction stands here, and neither a label nor the end of the body
abbrev pub in_block : TokenV → Bool
in_block t = not (is_label t || is_mark 125 t)

-- the label of the entry block, which may be left out: it then takes the next number
abbrev pub entry_label_at : Scope → Reader Name
entry_label_at scope = choose is_label (token_by (new_label scope)) (gives (Numbered scope.next))

module _ (known : Known) where
  -- the next instruction
  abbrev pub step_at : Scope → Reader (Instruction Name TypeV ConstantV)
  step_at scope = instruction_at known scope.next scope.defined

  -- the instructions of a block
  abbrev pub instructions_at : Scope → Reader (List (Instruction Name TypeV ConstantV))
  instructions_at scope = repeated_under in_block step_at after_instruction scope

  -- the instructions behind a label
  abbrev pub block_behind : Scope → Name → Reader (Block Name TypeV ConstantV)
  block_behind scope label ts = instructions_at (defining scope label) ts >>= λ all. Ok (record { label = label; instructions = all.0 }, all.1)

  -- name: and instructions
  abbrev pub block_at : Scope → Reader (Block Name TypeV ConstantV)
  block_at scope ts = do
    label ← token_by (new_label scope) ts
    block_behind scope label.0 label.1

  -- the entry block
  abbrev pub entry_at : Scope → Reader (Block Name TypeV ConstantV)
  entry_at scope ts = do
    label ← entry_label_at scope ts
    block_behind scope label.0 label.1

  -- blocks up to the closing brace, the entry block first
  abbrev pub body_at : Scope → Reader (List (Block Name TypeV ConstantV))
  body_at scope ts = do
    entry ← entry_at scope ts
    others ← repeated_under is_label block_at after_block (after_block scope entry.0) entry.1
    close ← mark_at 125 others.1
    Ok (entry.0 ∷ others.0, close.1)
