-- What stands in a constant, element by element.
use Rattle.std.proofs.Common.{◌≡◌, ℕ, true, List, [], ◌∷◌, map, refl, ap, ◌∙◌}
use Rattle.std.specs.Prelude.{◌&&◌}
use Rattle.std.specs.List.{list_all}
use Rattle.ir_tree.specs.declared.nodes.Element.{Element}
use Rattle.ir_tree.specs.Table.{Table}
use Rattle.ir_tree.specs.Trees.{TypeV, ConstantV, NullC}
use Rattle.ir_tree.specs.Naming.{type_at, types_at, elements_by}
use Rattle.ir_rules.specs.Seen.{ModuleV}
use Rattle.ir_rules.specs.Constants.{is_integer, written_types, all_integers, has_form, constant_index, indices_of, holds_together, all_together}
use Rattle.ir_rules.specs.Heads.{element_types}
use Rattle.ir_rules.proofs.ConstantLemmas.{written_is}

pub integers_are : (t : Table) (es : List Element) → all_integers (types_at t (element_types es)) ≡ list_all (λ e. is_integer (type_at t e.of)) es
unfolding all_integers
integers_are t [] = refl
integers_are t (e ∷ es) = ap (λ b. is_integer (type_at t e.of) && b) (integers_are t es)

pub elements_are : (m : ModuleV) (type : ℕ → TypeV) (at : ℕ → ConstantV) (es : List Element)
    → all_together m (elements_by type at es) ≡ list_all (λ e. has_form m (type e.of) (at e.value) && holds_together m (at e.value)) es
unfolding all_together
elements_are m type at [] = refl
elements_are m type at (e ∷ es) = ap (λ b. has_form m (type e.of) (at e.value) && holds_together m (at e.value) && b) (elements_are m type at es)

pub indices_are : (type : ℕ → TypeV) (at : ℕ → ConstantV) (es : List Element) → indices_of (elements_by type at es) ≡ map (λ e. constant_index (type e.of) (at e.value)) es
unfolding indices_of
indices_are type at [] = refl
indices_are type at (e ∷ es) = ap (λ l. constant_index (type e.of) (at e.value) ∷ l) (indices_are type at es)

pub integers_at : (t : Table) (at : ℕ → ConstantV) (es : List Element) → all_integers (written_types (elements_by (type_at t) at es)) ≡ list_all (λ e. is_integer (type_at t e.of)) es
integers_at t at es = ap all_integers (written_is t at es) ∙ integers_are t es

pub together_null : (m : ModuleV) → holds_together m NullC ≡ true
unfolding holds_together
together_null m = refl
