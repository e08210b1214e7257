-- What instructions begin with: %name or a word.
use Rattle.std.proofs.Common.{◌≡◌, ℕ, Bool, true, false, List, [], ◌++◌, Some, None, refl, ap, ◌∙◌, inl, inr}
use Rattle.std.specs.Prelude.{codes}
use Rattle.pv_base.specs.declared.name.Name.{Name}
use Rattle.ir_lex.specs.declared.token.TokenKind.{TokenKind}
use Rattle.ir_lex.specs.declared.token.TokenKind.TheVariants as kind
use Rattle.ir_tree.specs.declared.instruction.Instruction.{Instruction}
use Rattle.ir_tree.specs.declared.instruction.Instruction.TheVariants as instruction
use Rattle.ir_tree.specs.Trees.{TypeV, ConstantV}
use Rattle.ir_text.specs.Tokens.{TokenV, is_word, word_is}
use Rattle.ir_text.specs.Choice.{Opens}
use Rattle.ir_text.specs.Operands.{is_local, kind_is_local}
use Rattle.ir_text.specs.Passed.{kind_is_word}
use Rattle.ir_text.specs.Spelled.{one_token}
use Rattle.ir_text.specs.Types.{Known}
use Rattle.ir_text.specs.TypeSpelled.{◌▸◌, a_mark, a_word}
use Rattle.ir_instr.specs.Instructions.{defined_name}
use Rattle.ir_instr.specs.InstructionSpelled.{some_markers, a_result, an_instruction}
use Rattle.instr_laws.proofs.InstructionLaws.{defined_local_by}
use Rattle.instr_laws.proofs.Opening.{both_opens, one_opens, opens_as, the_word}
use Rattle.ir_grammar.specs.Scopes.{Scope}
use Rattle.ir_grammar.specs.Bodies.{in_block}
use Rattle.module_laws.specs.Blocks.{a_step}

abbrev Instr : Type 0
Instr = Instruction Name TypeV ConstantV

abbrev pub kind_begins : TokenKind → Bool
kind_begins kind.LocalName = true
kind_begins kind.Word = true
kind_begins _ = false

abbrev pub begins : TokenV → Bool
begins t = kind_begins t.kind

begins_block_by : (k : TokenKind) (t : TokenV) → t.kind ≡ k → kind_begins k ≡ true → in_block t ≡ true
begins_block_by kind.LocalName t is e = rw is refl
begins_block_by kind.Word t is e = rw is refl
begins_block_by kind.GlobalName t is e = absurd cc
begins_block_by kind.Label t is e = absurd cc
begins_block_by kind.Integer t is e = absurd cc
begins_block_by kind.Text t is e = absurd cc
begins_block_by kind.Punct t is e = absurd cc

local_begins : (k : TokenKind) → kind_is_local k ≡ true → kind_begins k ≡ true
local_begins kind.LocalName e = refl
local_begins kind.Word e = refl
local_begins kind.GlobalName e = absurd cc
local_begins kind.Label e = absurd cc
local_begins kind.Integer e = absurd cc
local_begins kind.Text e = absurd cc
local_begins kind.Punct e = absurd cc

word_begins : (w : List ℕ) (k : TokenKind) (text : List ℕ) → word_is w k text ≡ true → kind_begins k ≡ true
word_begins w kind.Word text e = refl
word_begins w kind.LocalName text e = refl
word_begins w kind.GlobalName text e = absurd cc
word_begins w kind.Label text e = absurd cc
word_begins w kind.Integer text e = absurd cc
word_begins w kind.Text text e = absurd cc
word_begins w kind.Punct text e = absurd cc

any_word_begins : (k : TokenKind) → kind_is_word k ≡ true → kind_begins k ≡ true
any_word_begins kind.Word e = refl
any_word_begins kind.LocalName e = refl
any_word_begins kind.GlobalName e = absurd cc
any_word_begins kind.Label e = absurd cc
any_word_begins kind.Integer e = absurd cc
any_word_begins kind.Text e = absurd cc
any_word_begins kind.Punct e = absurd cc

-- a word and what stands behind it
pub that_opens : (w : List ℕ) (c : List TokenV → Type 0) (ws : List TokenV) → (a_word w ▸ c) ws → Opens (is_word w) ws
that_opens w c ws s = both_opens (is_word w) (a_word w) c ws (λ us m. record { token = m.token; rest = []; parts = m.parts; is = the_word w m.token tt m.is }) s

word_opens : (w : List ℕ) (c : List TokenV → Type 0) (ws : List TokenV) → (a_word w ▸ c) ws → Opens begins ws
word_opens w c ws s = opens_as (is_word w) begins ws (λ t e. word_begins w t.kind t.text e) (that_opens w c ws s)

module _ (known : Known) (next : ℕ) (defined : List Name) where
  pub result_opens : (to : Name) (c : List TokenV → Type 0) (ws : List TokenV) → (a_result known next defined to ▸ c) ws → Opens is_local ws
  result_opens to c ws s =
      both_opens is_local (a_result known next defined to) c ws (λ us r. both_opens is_local (one_token (defined_name next defined) to) (a_mark 61) us (λ vs m. one_opens is_local (defined_name next defined) to vs (λ t e. defined_local_by 0 known next defined t.kind t to e) m) r) s

  result_begins : (to : Name) (c : List TokenV → Type 0) (ws : List TokenV) → (a_result known next defined to ▸ c) ws → Opens begins ws
  result_begins to c ws s = opens_as is_local begins ws (λ t e. local_begins t.kind e) (result_opens to c ws s)

  call_opens : (c : List TokenV → Type 0) (ws : List TokenV) → (some_markers ▸ a_word (codes "call") ▸ c) ws → Opens begins ws
  call_opens c ws s =
      elim s.first_spells [
        | inl none ↦
            let o = word_opens (codes "call") c s.rest s.rest_spells in
            record { token = o.token; rest = o.rest; parts = s.parts ∙ ap (λ (u : List TokenV). u ++ s.rest) none ∙ o.parts; is = o.is }
        | inr m ↦
            let o = m.0 in
            record { token = o.token; rest = o.rest ++ s.rest; parts = s.parts ∙ ap (λ (u : List TokenV). u ++ s.rest) o.parts; is = any_word_begins o.token.kind o.is }
      ]

  pub instruction_begins : (i : Instr) (ws : List TokenV) → an_instruction known next defined i ws → Opens begins ws
  instruction_begins (instruction.Binary to operation flags of left right) ws s = result_begins to _ ws s
  instruction_begins (instruction.Cast to operation flags of value target) ws s = result_begins to _ ws s
  instruction_begins (instruction.Freeze to of value) ws s = result_begins to _ ws s
  instruction_begins (instruction.Compare to pred of left right) ws s = result_begins to _ ws s
  instruction_begins (instruction.Select to condition of on_true on_false) ws s = result_begins to _ ws s
  instruction_begins (instruction.Phi to of arms) ws s = result_begins to _ ws s
  instruction_begins (instruction.Alloca to of count) ws s = result_begins to _ ws s
  instruction_begins (instruction.Load to of pointer) ws s = result_begins to _ ws s
  instruction_begins (instruction.Store of value pointer) ws s = word_opens (codes "store") _ ws s
  instruction_begins (instruction.Address to inbounds of base indices) ws s = result_begins to _ ws s
  instruction_begins (instruction.Call (Some to) of variadic what arguments) ws s = result_begins to _ ws s
  instruction_begins (instruction.Call None of variadic what arguments) ws s = call_opens _ ws s
  instruction_begins (instruction.Return value) ws s = word_opens (codes "ret") _ ws s
  instruction_begins (instruction.Jump target) ws s = word_opens (codes "br") _ ws s
  instruction_begins (instruction.Branch condition on_true on_false) ws s = word_opens (codes "br") _ ws s
  instruction_begins (instruction.Switch of value default cases) ws s = word_opens (codes "switch") _ ws s
  instruction_begins instruction.Unreachable ws s = word_opens (codes "unreachable") _ ws s

pub step_opens : (known : Known) (scope : Scope) (i : Instr) (ws : List TokenV) → a_step known scope i ws → Opens in_block ws
step_opens known scope i ws s = opens_as begins in_block ws (λ t e. begins_block_by t.kind t refl e) (instruction_begins known scope.next scope.defined i ws s)
