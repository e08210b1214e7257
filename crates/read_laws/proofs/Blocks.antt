-- What the body of a function keeps.
use Rattle.std.proofs.Common.{◌≡◌, List, [], ◌∷◌, Option, Some, None, Ok}
use Rattle.std.specs.Prelude.{fold, filter_map, flat_map}
use Rattle.std.specs.List.{AllByRecursion, cons_option}
use Rattle.pv_base.specs.declared.name.Name.{Name}
use Rattle.ir_lex.specs.declared.token.TokenKind.{TokenKind}
use Rattle.ir_lex.specs.declared.token.TokenKind.TheVariants as kind
use Rattle.ir_tree.specs.declared.instruction.Instruction.TheVariants as instruction
use Rattle.ir_tree.specs.declared.items.NamedType.{NamedType}
use Rattle.ir_tree.specs.Trees.{TypeV}
use Rattle.ir_text.specs.Tokens.{TokenV}
use Rattle.ir_text.specs.Reading.{token_by}
use Rattle.ir_text.specs.Leaves.{mark_at, spelled_name}
use Rattle.ir_text.specs.Repeated.{repeated_under}
use Rattle.ir_text.specs.Types.{Known}
use Rattle.ir_instr.specs.InstructionSpelled.{an_instruction}
use Rattle.ir_instr.specs.Results.{result_of}
use Rattle.ir_grammar.specs.Scopes.{Scope, defining, defining_some, after_instruction, after_block}
use Rattle.ir_grammar.specs.Bodies.{new_label, new_label_by, is_label, in_block, entry_label_at, step_at, instructions_at, block_behind, block_at, entry_at, body_at}
use Rattle.ir_rules.specs.Seen.{InstructionV, BlockV}
use Rattle.instr_laws.proofs.InstructionLaws.{instruction_laws}
use Rattle.read_laws.specs.Describing.{Describes}
use Rattle.read_laws.specs.Laws.{IsRead}
use Rattle.read_laws.proofs.Scopes.{Fresh, IsNew, Defines, defines_one, defines_none, defines_then, next_is_new, name_new, definable_new}
use Rattle.read_laws.proofs.Steps.{Gives, gives, then, either, token_read, Each, Done, Then, each_read}

-- ---- results

-- the name that an instruction defines is new
abbrev ResultIs : Scope → Option Name → Type 0
ResultIs scope (Some name) = IsNew scope name
ResultIs scope None = Unit {0}

module _ (known : Known) where
  result_is : (scope : Scope) (i : InstructionV) (ws : List TokenV) → an_instruction known scope.next scope.defined i ws → ResultIs scope (result_of i)
  result_is scope (instruction.Binary to op flags of left right) ws s = let o = s.first_spells.first_spells in name_new scope o.token to o.is
  result_is scope (instruction.Cast to op flags of value target) ws s = let o = s.first_spells.first_spells in name_new scope o.token to o.is
  result_is scope (instruction.Freeze to of value) ws s = let o = s.first_spells.first_spells in name_new scope o.token to o.is
  result_is scope (instruction.Compare to pred of left right) ws s = let o = s.first_spells.first_spells in name_new scope o.token to o.is
  result_is scope (instruction.Select to condition of on_true on_false) ws s = let o = s.first_spells.first_spells in name_new scope o.token to o.is
  result_is scope (instruction.Phi to of arms) ws s = let o = s.first_spells.first_spells in name_new scope o.token to o.is
  result_is scope (instruction.Alloca to of count) ws s = let o = s.first_spells.first_spells in name_new scope o.token to o.is
  result_is scope (instruction.Load to of pointer) ws s = let o = s.first_spells.first_spells in name_new scope o.token to o.is
  result_is scope (instruction.Store of value pointer) ws s = tt
  result_is scope (instruction.Address to inbounds of base indices) ws s = let o = s.first_spells.first_spells in name_new scope o.token to o.is
  result_is scope (instruction.Call (Some to) of variadic what arguments) ws s = let o = s.first_spells.first_spells in name_new scope o.token to o.is
  result_is scope (instruction.Call None of variadic what arguments) ws s = tt
  result_is scope (instruction.Return value) ws s = tt
  result_is scope (instruction.Jump target) ws s = tt
  result_is scope (instruction.Branch condition on_true on_false) ws s = tt
  result_is scope (instruction.Switch of value default cases) ws s = tt
  result_is scope instruction.Unreachable ws s = tt

  -- ---- instructions, one after the other

  module _ (types : List (NamedType Name TypeV)) (describes : Describes known types) where
    record StepIs (scope : Scope) (i : InstructionV) : Type 0 where
      read : IsRead types i
      result : ResultIs scope (result_of i)

    step_is : (scope : Scope) (ts : List TokenV) (x : InstructionV × List TokenV) → step_at known scope ts ≡ Ok x → StepIs scope x.0
    step_is scope ts x e =
        let t = (instruction_laws 0 known scope.next scope.defined).sound ts x e in
        record {
          read = record { known = known; describes = describes; next = scope.next; defined = scope.defined; tokens = ts; rest = x.1; read = e };
          result = result_is scope x.0 t.front t.spelled;
        }

    result_more : (scope behind : Scope) (o : Option Name) (names : List Name) → Fresh scope → ResultIs scope o → (Fresh (defining_some scope o) → Defines (defining_some scope o) names behind) → Defines scope (cons_option o names) behind
    result_more scope behind (Some name) names fresh is others =
        let one = defines_one scope name fresh is in
        defines_then scope (defining scope name) behind (name ∷ []) names one (others one.fresh)
    result_more scope behind None names fresh is others = others fresh

    steps_define : (scope : Scope) (all : List InstructionV) → Each StepIs after_instruction scope all → Fresh scope → Defines scope (filter_map result_of all) (fold after_instruction scope all)
    steps_define scope [] (Done s) fresh = defines_none scope fresh
    steps_define scope (i ∷ all) (Then s a rest p each) fresh = result_more scope _ (result_of i) _ fresh p.result (λ later. steps_define (after_instruction scope i) all each later)

    steps_read : (scope : Scope) (all : List InstructionV) → Each StepIs after_instruction scope all → AllByRecursion (IsRead types) all
    steps_read scope [] (Done s) = tt
    steps_read scope (i ∷ all) (Then s a rest p each) = (p.read, steps_read (after_instruction scope i) all each)

    -- ---- blocks

    abbrev pub names_in : BlockV → List Name
    names_in b = b.label ∷ filter_map result_of b.instructions

    pub record BlockIs (scope : Scope) (b : BlockV) : Type 0 where
      pub defines : Defines scope (names_in b) (after_block scope b)
      pub read : AllByRecursion (IsRead types) b.instructions

    abbrev BlockGiven : Scope → BlockV × List TokenV → Type 0
    BlockGiven scope x = BlockIs scope x.0

    behind_is : (scope : Scope) (label : Name) (ts : List TokenV) → Fresh scope → IsNew scope label → Gives (BlockGiven scope) (block_behind known scope label ts)
    behind_is scope label ts fresh new =
        then (BlockGiven scope) (instructions_at known (defining scope label) ts) _ (λ all e.
        let each = each_read in_block (step_at known) after_instruction StepIs step_is (defining scope label) ts all e in
        let one = defines_one scope label fresh new in
        gives (BlockGiven scope) _ (record {
          defines = defines_then scope (defining scope label) _ (label ∷ []) _ one (steps_define (defining scope label) all.0 each one.fresh);
          read = steps_read (defining scope label) all.0 each;
        }))

    label_of : (scope : Scope) (k : TokenKind) (t : TokenV) (found : Name) → new_label_by scope k t ≡ Ok found → IsNew scope found
    label_of scope kind.Label t found e = definable_new scope (spelled_name t) found e
    label_of scope kind.Word t found e = absurd cc
    label_of scope kind.Punct t found e = absurd cc
    label_of scope kind.GlobalName t found e = absurd cc
    label_of scope kind.LocalName t found e = absurd cc
    label_of scope kind.Integer t found e = absurd cc
    label_of scope kind.Text t found e = absurd cc

    label_new : (scope : Scope) (ts : List TokenV) (x : Name × List TokenV) → token_by (new_label scope) ts ≡ Ok x → IsNew scope x.0
    label_new scope ts x e = let t = token_read (new_label scope) ts x e in label_of scope t.token.kind t.token x.0 t.is

    block_is : (scope : Scope) (ts : List TokenV) → Fresh scope → Gives (BlockGiven scope) (block_at known scope ts)
    block_is scope ts fresh = then (BlockGiven scope) (token_by (new_label scope) ts) _ (λ label e. behind_is scope label.0 label.1 fresh (label_new scope ts label e))

    abbrev LabelGiven : Scope → Name × List TokenV → Type 0
    LabelGiven scope x = IsNew scope x.0

    entry_label : (scope : Scope) (ts : List TokenV) → Fresh scope → Gives (LabelGiven scope) (entry_label_at scope ts)
    entry_label scope ts fresh = either (LabelGiven scope) _ _ _ (record { holds = λ x e. label_new scope ts x e }) (gives (LabelGiven scope) _ (next_is_new scope fresh))

    entry_is : (scope : Scope) (ts : List TokenV) → Fresh scope → Gives (BlockGiven scope) (entry_at known scope ts)
    entry_is scope ts fresh = then (BlockGiven scope) (entry_label_at scope ts) _ (λ label e. behind_is scope label.0 label.1 fresh ((entry_label scope ts fresh).holds label e))

    -- ---- bodies

    pub record BodyIs (scope : Scope) (blocks : List BlockV) : Type 0 where
      pub defines : Defines scope (flat_map names_in blocks) (fold after_block scope blocks)
      pub read : AllByRecursion (λ b. AllByRecursion (IsRead types) b.instructions) blocks

    abbrev IfFresh : Scope → BlockV → Type 0
    IfFresh scope b = Fresh scope → BlockIs scope b

    no_blocks : (scope : Scope) → Fresh scope → BodyIs scope []
    no_blocks scope fresh = record { defines = defines_none scope fresh; read = tt }

    more_blocks : (scope : Scope) (b : BlockV) (all : List BlockV) → BlockIs scope b → BodyIs (after_block scope b) all → BodyIs scope (b ∷ all)
    more_blocks scope b all one others = record {
      defines = defines_then scope (after_block scope b) _ (names_in b) _ one.defines others.defines;
      read = (one.read, others.read);
    }

    blocks_are : (scope : Scope) (all : List BlockV) → Each IfFresh after_block scope all → Fresh scope → BodyIs scope all
    blocks_are scope [] (Done s) fresh = no_blocks scope fresh
    blocks_are scope (b ∷ all) (Then s a rest p each) fresh = let one = p fresh in more_blocks scope b all one (blocks_are (after_block scope b) all each one.defines.fresh)

    abbrev pub BodyGiven : Scope → List BlockV × List TokenV → Type 0
    BodyGiven scope x = BodyIs scope x.0

    pub body_is : (scope : Scope) (ts : List TokenV) → Fresh scope → Gives (BodyGiven scope) (body_at known scope ts)
    body_is scope ts fresh =
        then (BodyGiven scope) (entry_at known scope ts) _ (λ entry e.
        let one = (entry_is scope ts fresh).holds entry e in
        then (BodyGiven scope) (repeated_under is_label (block_at known) after_block (after_block scope entry.0) entry.1) _ (λ others f.
        let each = each_read is_label (block_at known) after_block IfFresh (λ s us x g later. (block_is s us later).holds x g) (after_block scope entry.0) entry.1 others f in
        then (BodyGiven scope) (mark_at 125 others.1) _ (λ close g. gives (BodyGiven scope) _ (more_blocks scope entry.0 others.0 one (blocks_are (after_block scope entry.0) others.0 each one.defines.fresh)))))
