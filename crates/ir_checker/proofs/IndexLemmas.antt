-- Items by name, found at the first place of their key.
use Rattle.std.proofs.Common.{◌≡◌, ℕ, suc, ◌+◌, Bool, true, false, cond, List, [], ◌∷◌, map, length, ◌≤◌, Option, Some, None, slice_get, refl, sym, ap, ◌∙◌, arith}
use Rattle.std.specs.Prelude.{nat_eq, ◌||◌, option_map, option_and_then, find, is_some}
use Rattle.std.specs.List.{list_any}
use Rattle.std.proofs.lemmas.Option.{slice_get_past}
use Rattle.pv_base.specs.declared.name.Name.{Name}
use Rattle.ir_tree.specs.declared.items.Function.{Function}
use Rattle.ir_tree.specs.Table.{Table, same_name}
use Rattle.ir_tree.specs.Trees.{TypeV}
use Rattle.ir_tree.specs.Naming.{name_at}
use Rattle.ir_tree.specs.Modules.{Items}
use Rattle.ir_tree.specs.Shown.{shown_block, shown_function, shown_global}
use Rattle.ir_rules.specs.declared.given.Given.{Given}
use Rattle.ir_rules.specs.declared.given.Defined.{Defined}
use Rattle.ir_rules.specs.Seen.{seen}
use Rattle.ir_rules.specs.Defining.{defined, given_type, register_type, is_label, function_named, is_global}
use Rattle.ir_rules.specs.Heads.{shown_given, shown_defined}
use Rattle.ir_rules.proofs.ShownLemmas.{find_map, register_is}
use Rattle.ir_rules.proofs.FlagLemmas.{any_of}
use Rattle.ir_checker.specs.declared.index.Index.{Index}
use Rattle.ir_checker.specs.declared.scope.Scope.{Scope}
use Rattle.ir_checker.specs.Firsts.{first_place}
use Rattle.ir_checker.specs.Keys.{key_of, IsZero}
use Rattle.ir_checker.specs.Scopes.{IsIndex, IsScope}

-- the first item that passes, by the first place of its key
module _ {X : Type 0} (p : X → Bool) (key : X → ℕ) (q : ℕ) (same : (x : X) → p x ≡ nat_eq q (key x)) where
  next_one : (x : X) (xs : List X) (o : Option ℕ) → option_and_then (slice_get (x ∷ xs)) (option_map (λ k. k + 1) o) ≡ option_and_then (slice_get xs) o
  next_one x xs None = refl
  next_one x xs (Some k) = let s : k + 1 ≡ suc k = omega arith in rw s refl

  chosen : (b : Bool) (x : X) (xs : List X) (o : Option ℕ) → cond b (Some x) (option_and_then (slice_get xs) o) ≡ option_and_then (slice_get (x ∷ xs)) (cond b (Some 0) (option_map (λ k. k + 1) o))
  chosen true x xs o = refl
  chosen false x xs o = sym (next_one x xs o)

  pub find_at : (xs : List X) → find p xs ≡ option_and_then (slice_get xs) (first_place q (map key xs))
  unfolding first_place
  find_at [] = refl
  find_at (x ∷ xs) = rw (same x, find_at xs) (chosen (nat_eq q (key x)) x xs (first_place q (map key xs)))

  some_of : (b : Bool) (o : Option ℕ) → (b || is_some o) ≡ is_some (cond b (Some 0) (option_map (λ k. k + 1) o))
  some_of true o = refl
  some_of false None = refl
  some_of false (Some k) = refl

  pub any_at : (xs : List X) → list_any p xs ≡ is_some (first_place q (map key xs))
  unfolding first_place
  any_at [] = refl
  any_at (x ∷ xs) = rw (same x, any_at xs) (some_of (nat_eq q (key x)) (first_place q (map key xs)))

module _ (m : Items) (x : Index) (is : IsIndex m x) (k : ℕ) where
  function_is : function_named (seen m) (name_at m.names k) ≡ option_map (shown_function m.names) (option_and_then (slice_get m.functions) (first_place (key_of m.names x.zero k) x.functions))
  function_is =
      find_map (λ f. same_name (name_at m.names k) f.name) (shown_function m.names) m.functions
      ∙ ap (option_map (shown_function m.names)) (find_at (λ f. same_name (name_at m.names k) (name_at m.names f.name)) (λ f. key_of m.names x.zero f.name) (key_of m.names x.zero k) (λ f. is.zero.same k f.name) m.functions
      ∙ rw is.functions refl)

  pub function_none : None ≡ first_place (key_of m.names x.zero k) x.functions → None ≡ function_named (seen m) (name_at m.names k)
  function_none e = sym (function_is ∙ rw (← e) refl)

  pub function_some : (place : ℕ) (o : Option (Function ℕ ℕ ℕ)) → Some place ≡ first_place (key_of m.names x.zero k) x.functions → o ≡ slice_get m.functions place → option_map (shown_function m.names) o ≡ function_named (seen m) (name_at m.names k)
  function_some place o e d = sym (function_is ∙ rw (← e, ← d) refl)

  pub global_is : is_global (seen m) (name_at m.names k) ≡ (is_some (first_place (key_of m.names x.zero k) x.globals) || is_some (first_place (key_of m.names x.zero k) x.functions))
  global_is =
      let globals : list_any (λ g. same_name (name_at m.names k) g.name) (seen m).globals ≡ is_some (first_place (key_of m.names x.zero k) x.globals) =
      any_of (λ g. same_name (name_at m.names k) g.name) (shown_global m.names) m.globals
      ∙ any_at (λ g. same_name (name_at m.names k) (name_at m.names g.name)) (λ g. key_of m.names x.zero g.name) (key_of m.names x.zero k) (λ g. is.zero.same k g.name) m.globals ∙ rw is.globals refl in
      let functions : list_any (λ f. same_name (name_at m.names k) f.name) (seen m).functions ≡ is_some (first_place (key_of m.names x.zero k) x.functions) =
      any_of (λ f. same_name (name_at m.names k) f.name) (shown_function m.names) m.functions
      ∙ any_at (λ f. same_name (name_at m.names k) (name_at m.names f.name)) (λ f. key_of m.names x.zero f.name) (key_of m.names x.zero k) (λ f. is.zero.same k f.name) m.functions ∙ rw is.functions refl in
      rw (globals, functions) refl

module _ (t : Table) (z : ℕ) (f : Function ℕ ℕ ℕ) (s : Scope) (zero_is : IsZero t z) (is : IsScope t z f s) (k : ℕ) where
  pub label_is : is_label (shown_function t f) (name_at t k) ≡ is_some (first_place (key_of t z k) s.labels)
  label_is =
      any_of (λ b. same_name (name_at t k) b.label) (shown_block t) f.blocks
      ∙ any_at (λ b. same_name (name_at t k) (name_at t b.label)) (λ b. key_of t z b.label) (key_of t z k) (λ b. zero_is.same k b.label) f.blocks ∙ rw is.labels refl

  of_one : (o : Option (Defined ℕ ℕ)) → option_and_then (λ d. option_map given_type d.of) (option_map (shown_defined t) o) ≡ option_map (λ g. given_type (shown_given t g)) (option_and_then (λ d. d.of) o)
  of_one None = refl
  of_one (Some d) = of_given d.of
    where
      of_given : (g : Option (Given ℕ)) → option_map given_type (option_map (shown_given t) g) ≡ option_map (λ g. given_type (shown_given t g)) g
      of_given None = refl
      of_given (Some g) = refl

  pub register_at : register_type (shown_function t f) (name_at t k) ≡ option_map (λ g. given_type (shown_given t g)) (option_and_then (λ d. d.of) (option_and_then (slice_get s.all) (first_place (key_of t z k) s.names)))
  register_at =
      let here : find (λ d. same_name (name_at t k) (name_at t d.name)) (defined f) ≡ option_and_then (slice_get s.all) (first_place (key_of t z k) s.names) =
      find_at (λ d. same_name (name_at t k) (name_at t d.name)) (λ d. key_of t z d.name) (key_of t z k) (λ d. zero_is.same k d.name) (defined f) ∙ rw (is.all, is.names) refl in
      register_is t f (name_at t k)
      ∙ ap (λ (o : Option (Defined Name TypeV)). option_and_then (λ d. option_map given_type d.of) o) (find_map (λ d. same_name (name_at t k) d.name) (shown_defined t) (defined f))
      ∙ of_one (find (λ d. same_name (name_at t k) (name_at t d.name)) (defined f))
      ∙ ap (λ (o : Option (Defined ℕ ℕ)). option_map (λ g. given_type (shown_given t g)) (option_and_then (λ d. d.of) o)) here

  pub register_none : None ≡ first_place (key_of t z k) s.names → None ≡ register_type (shown_function t f) (name_at t k)
  register_none e = sym (register_at ∙ rw (← e) refl)

  pub register_lost : (place : ℕ) → Some place ≡ first_place (key_of t z k) s.names → length s.all ≤ place → None ≡ register_type (shown_function t f) (name_at t k)
  register_lost place e le = sym (register_at ∙ rw (← e, slice_get_past s.all place le) refl)

  pub register_some : (place : ℕ) (d : Defined ℕ ℕ) → Some place ≡ first_place (key_of t z k) s.names → slice_get s.all place ≡ Some d → option_map (λ g. given_type (shown_given t g)) d.of ≡ register_type (shown_function t f) (name_at t k)
  register_some place d e g = sym (register_at ∙ rw (← e, g) refl)
