-- The laws of blocks, bodies and definitions.
use Rattle.std.proofs.Common.{◌≡◌, ℕ, true, false, List, [], ◌∷◌, ◌++◌, refl, sym, subst}
use Rattle.std.proofs.lemmas.Bool.{or_left, or_right}
use Rattle.pv_base.specs.declared.name.Name.{Name}
use Rattle.ir_lex.specs.declared.token.TokenKind.{TokenKind}
use Rattle.ir_lex.specs.declared.token.TokenKind.TheVariants as kind
use Rattle.ir_tree.specs.declared.items.Block.{Block}
use Rattle.ir_tree.specs.Trees.{TypeV, ConstantV}
use Rattle.ir_text.specs.Tokens.{TokenV, is_mark, punct_is}
use Rattle.ir_text.specs.Reading.{next_is}
use Rattle.ir_text.specs.Lawful.{Follow, anything, Lawful}
use Rattle.ir_text.specs.Repeated.{each_under}
use Rattle.ir_text.specs.Types.{Known}
use Rattle.ir_text.specs.TypeSpelled.{a_mark}
use Rattle.ir_text.proofs.Marks.{mark_opens}
use Rattle.instr_laws.proofs.Opening.{opened, both_opens}
use Rattle.ir_grammar.specs.Scopes.{Scope, after_block}
use Rattle.ir_grammar.specs.Headers.{scope_of}
use Rattle.ir_grammar.specs.Bodies.{is_label, kind_is_label, block_at, body_at}
use Rattle.ir_grammar.specs.Items.{definition_at}
use Rattle.module_laws.specs.Behind.{ends_block, BehindBlock}
use Rattle.module_laws.specs.Blocks.{a_block, a_body}
use Rattle.module_laws.specs.ItemsSpelled.{a_definition}
use Rattle.module_laws.proofs.Between.{opens_follow, next_follow}
use Rattle.module_laws.proofs.BlockLaws.{instructions_laws}
use Rattle.module_laws.proofs.BodyLaws as bodies
use Rattle.module_laws.proofs.FunctionLaws as functions

abbrev BlockV : Type 0
BlockV = Block Name TypeV ConstantV

-- blocks end at the closing brace
abbrev Closing : Follow
Closing rest = next_is (is_mark 125) rest ≡ true

no_label_by : (k : TokenKind) (text : List ℕ) → punct_is (125 ∷ []) k text ≡ true → kind_is_label k ≡ false
no_label_by kind.Punct text e = refl
no_label_by kind.Label text e = absurd cc
no_label_by kind.LocalName text e = absurd cc
no_label_by kind.GlobalName text e = absurd cc
no_label_by kind.Integer text e = absurd cc
no_label_by kind.Word text e = absurd cc
no_label_by kind.Text text e = absurd cc

ends_here : (t : TokenV) (us : List TokenV) → ends_block t ≡ true → BehindBlock (t ∷ us)
unfolding next_is
ends_here t us e = e

over_here : (t : TokenV) (us : List TokenV) → is_mark 125 t ≡ true → next_is is_label (t ∷ us) ≡ false
unfolding next_is
over_here t us e = no_label_by t.kind t.text e

over : (rest : List TokenV) → Closing rest → next_is is_label rest ≡ false
over rest h = next_follow (is_mark 125) (λ us. next_is is_label us ≡ false) rest over_here h

closes : (ws rest : List TokenV) → a_mark 125 ws → Closing (ws ++ rest)
closes ws rest s = opened (is_mark 125) ws rest (mark_opens 125 ws s)

comes : (known : Known) (scope : Scope) (all : List BlockV) (ws rest : List TokenV) → each_under (a_block known) after_block scope all ws → Closing rest → BehindBlock (ws ++ rest)
comes known scope [] ws rest s h = subst (λ (u : List TokenV). BehindBlock (u ++ rest)) (sym s) (next_follow (is_mark 125) BehindBlock rest (λ t us e. ends_here t us (or_right (is_label t) (is_mark 125 t) e)) h)
comes known scope (b ∷ all) ws rest s h =
    opens_follow is_label BehindBlock ws rest (λ t us e. ends_here t us (or_left (is_label t) (is_mark 125 t) e)) (both_opens is_label (a_block known scope b) _ ws (λ us o. bodies.block_opens known scope b us o) s)

module _ (n : ℕ) (known : Known) where
  pub block_laws : (scope : Scope) → Lawful n BehindBlock (block_at known scope) (a_block known scope)
  block_laws scope = bodies.block_laws n known BehindBlock Closing anything (instructions_laws known n) over (comes known) (λ ws rest s h. closes ws rest s) scope

  pub body_laws : (scope : Scope) → Lawful n anything (body_at known scope) (a_body known scope)
  body_laws scope = bodies.body_laws n known BehindBlock Closing anything (instructions_laws known n) over (comes known) (λ ws rest s h. closes ws rest s) scope

  pub definition_laws : (values : List Name) → Lawful n anything (definition_at known values) (a_definition known values)
  definition_laws values = functions.definition_laws n known values anything (λ h. body_laws (scope_of h.params))
