-- The rules of an instruction, by numbers and written out.
use Rattle.std.proofs.Common.{◌≡◌, ℕ, refl, ap, ◌∙◌}
use Rattle.std.specs.Prelude.{◌&&◌}
use Rattle.std.specs.List.{list_all}
use Rattle.std.proofs.lemmas.List.Folds.{list_all-map}
use Rattle.ir_tree.specs.declared.instruction.Instruction.{Instruction}
use Rattle.ir_tree.specs.declared.items.Function.{Function}
use Rattle.ir_tree.specs.Table.{Table}
use Rattle.ir_tree.specs.Naming.{name_at, type_at}
use Rattle.ir_tree.specs.Shown.{shown, shown_operand, shown_function}
use Rattle.ir_rules.specs.Seen.{ModuleV}
use Rattle.ir_rules.specs.Forms.{uses, targets, sources, integer_types}
use Rattle.ir_rules.specs.Defining.{is_label}
use Rattle.ir_rules.specs.Constants.{is_integer}
use Rattle.ir_rules.specs.Causes.{operand_known, calls_known, all_names_known, use_fits, form_fits, all_types_fit}
use Rattle.ir_rules.specs.Heads.{shown_use}
use Rattle.ir_rules.proofs.ShownLemmas.{uses_shown, targets_shown, sources_shown, integers_shown}

module _ (t : Table) (m : ModuleV) (f : Function ℕ ℕ ℕ) (i : Instruction ℕ ℕ ℕ) where
  uses_are : list_all (λ u. operand_known m (shown_function t f) u.value) (uses (shown t i)) ≡ list_all (λ u. operand_known m (shown_function t f) (shown_operand t u.value)) (uses i)
  uses_are = ap (list_all (λ u. operand_known m (shown_function t f) u.value)) (uses_shown t i) ∙ list_all-map (λ u. operand_known m (shown_function t f) u.value) (shown_use t) (uses i)

  targets_are : list_all (is_label (shown_function t f)) (targets (shown t i)) ≡ list_all (λ l. is_label (shown_function t f) (name_at t l)) (targets i)
  targets_are = ap (list_all (is_label (shown_function t f))) (targets_shown t i) ∙ list_all-map (is_label (shown_function t f)) (name_at t) (targets i)

  sources_are : list_all (is_label (shown_function t f)) (sources (shown t i)) ≡ list_all (λ l. is_label (shown_function t f) (name_at t l)) (sources i)
  sources_are = ap (list_all (is_label (shown_function t f))) (sources_shown t i) ∙ list_all-map (is_label (shown_function t f)) (name_at t) (sources i)

  pub known_is : all_names_known m (shown_function t f) (shown t i)
      ≡ (list_all (λ u. operand_known m (shown_function t f) (shown_operand t u.value)) (uses i) && list_all (λ l. is_label (shown_function t f) (name_at t l)) (targets i)
      && list_all (λ l. is_label (shown_function t f) (name_at t l)) (sources i) && calls_known m (shown t i))
  known_is = rw (uses_are, targets_are, sources_are) refl

  fit_are : list_all (use_fits m (shown_function t f)) (uses (shown t i)) ≡ list_all (λ u. use_fits m (shown_function t f) (shown_use t u)) (uses i)
  fit_are = ap (list_all (use_fits m (shown_function t f))) (uses_shown t i) ∙ list_all-map (use_fits m (shown_function t f)) (shown_use t) (uses i)

  integers_are : list_all is_integer (integer_types (shown t i)) ≡ list_all (λ k. is_integer (type_at t k)) (integer_types i)
  integers_are = ap (list_all is_integer) (integers_shown t i) ∙ list_all-map is_integer (type_at t) (integer_types i)

  pub types_are : all_types_fit m (shown_function t f) (shown t i)
      ≡ (list_all (λ u. use_fits m (shown_function t f) (shown_use t u)) (uses i) && list_all (λ k. is_integer (type_at t k)) (integer_types i) && form_fits m (shown_function t f) (shown t i))
  types_are = rw (fit_are, integers_are) refl
