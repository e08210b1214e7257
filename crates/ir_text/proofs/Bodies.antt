-- What is known of names, with one more.
use Rattle.std.proofs.Common.{◌≡◌, Bool, true, false, cond, List, Option, Some, sym, ap, subst, ◌∙◌}
use Rattle.std.specs.Prelude.{IfSome, option_and_then}
use Rattle.std.specs.Map.{lookup}
use Rattle.pv_base.specs.declared.name.Name.{Name}
use Rattle.ir_tree.specs.Bounds.{IsLayout}
use Rattle.ir_tree.specs.Table.{same_name}
use Rattle.ir_text.specs.declared.named.NamedBody.{NamedBody}
use Rattle.ir_text.specs.Named.{own_layout, body_in, HasLayouts}
use Rattle.ir_text.proofs.Looking.{lookup_same}

module _ (old new : List (Name × NamedBody)) (key : Name) (b : NamedBody) where
  pub inserted : (eq : Name → Name → Bool) → ((k q : Name) → eq k q ≡ same_name k q) → ((q : Name) → lookup (eq q) new ≡ cond (eq key q) (Some b) (lookup (eq q) old))
      → (q : Name) → body_in new q ≡ cond (same_name key q) (Some b) (body_in old q)
  inserted eq same updates q =
      sym (lookup_same (eq q) (same_name q) new (same q)) ∙ updates q
      ∙ ap (λ (t : Bool). cond t (Some b) (lookup (eq q) old)) (same key q)
      ∙ ap (λ (o : Option NamedBody). cond (same_name key q) (Some b) o) (lookup_same (eq q) (same_name q) old (same q))

  by_key : (test : Bool) (o : Option NamedBody) → IfSome b.layout IsLayout → IfSome (option_and_then own_layout o) IsLayout → IfSome (option_and_then own_layout (cond test (Some b) o)) IsLayout
  by_key true o one others = one
  by_key false o one others = others

  pub layouts_kept : HasLayouts old → IfSome b.layout IsLayout → ((q : Name) → body_in new q ≡ cond (same_name key q) (Some b) (body_in old q)) → (q : Name) → IfSome (option_and_then own_layout (body_in new q)) IsLayout
  layouts_kept others one is q = rw (is q) (by_key (same_name key q) (body_in old q) one (others q))

  pub inserted_after : (before : List (Name × NamedBody)) → old ≡ before → ((q : Name) → body_in new q ≡ cond (same_name key q) (Some b) (body_in old q)) → (q : Name) → body_in new q ≡ cond (same_name key q) (Some b) (body_in before q)
  inserted_after before is known = subst (λ (bodies : List (Name × NamedBody)). (q : Name) → body_in new q ≡ cond (same_name key q) (Some b) (body_in bodies q)) is known
