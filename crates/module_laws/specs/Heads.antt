-- How the heads of functions are spelled.
use Rattle.std.specs.Prelude.{◌≡◌, Bool, true, false, List, [], ◌∷◌, Option, Some}
use Rattle.std.proofs.Common.{◌⊎◌}
use Rattle.pv_base.specs.declared.name.Name.{Name}
use Rattle.ir_tree.specs.declared.items.Param.{Param}
use Rattle.ir_tree.specs.Trees.{TypeV}
use Rattle.ir_text.specs.Tokens.{TokenV}
use Rattle.ir_text.specs.Passed.{some_words, stops}
use Rattle.ir_text.specs.Spelled.{one_token, perhaps}
use Rattle.ir_text.specs.Types.{register_type, result_type}
use Rattle.ir_text.specs.TypeSpelled.{◌▸◌, a_mark}
use Rattle.ir_instr.specs.Instructions.{defined_name}
use Rattle.instr_laws.specs.Made.{Made}
use Rattle.ir_grammar.specs.Scopes.{Scope, no_scope, after_param}
use Rattle.ir_grammar.specs.Headers.{new_global, Params, no_params, unnamed, points_by, Header}

-- %name, or nothing where it has none or the counter's number
abbrev pub a_param_name : Bool → Scope → Option Name → List TokenV → Type 0
a_param_name declared scope = perhaps (unnamed declared scope.next) (Made (λ (name : Name). Some name) (λ name. one_token (defined_name scope.next scope.defined) name))

-- T WORDS %name, or T WORDS
abbrev pub a_param : Bool → Scope → Param Name TypeV → List TokenV → Type 0
a_param declared scope p = one_token register_type p.of ▸ some_words (stops [] false) tt ▸ a_param_name declared scope p.name

-- one parameter or more with commas between them, or `...` behind some or none
abbrev pub some_params : Bool → Scope → List (Param Name TypeV) → Bool → List TokenV → Type 0
some_params declared scope [] false ws = ⊥
some_params declared scope [] true ws = one_token (points_by declared) tt ws
some_params declared scope (p ∷ others) variadic ws =
    (a_param declared scope p ▸ (λ us. ((others ≡ []) × (variadic ≡ false) × (us ≡ [])) ⊎ (a_mark 44 ▸ some_params declared (after_param scope p) others variadic) us)) ws

-- parameters and the closing parenthesis
abbrev pub closed_params : Bool → Params → List TokenV → Type 0
closed_params declared all ws = ((all ≡ no_params) × a_mark 41 ws) ⊎ (some_params declared no_scope all.params all.variadic ▸ a_mark 41) ws

-- WORDS T @name(PARAMS), where these names of globals and functions were given before
abbrev pub a_head : Bool → List Name → Header → List TokenV → Type 0
a_head declared values h = some_words (stops [] true) tt ▸ one_token result_type h.result ▸ one_token (new_global values) h.name ▸ a_mark 40 ▸ closed_params declared h.params
