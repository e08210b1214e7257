-- A name that a checked module knows has a place.
use Rattle.std.proofs.Common.{◌≡◌, ℕ, suc, true, false, Bool, List, [], ◌∷◌, map, length, Option, Some, None, refl, sym, ap, ◌∙◌, inl, inr, if◌then◌else◌, nat_eq, eqb-true, eq-eqb}
use Rattle.std.specs.Prelude.{IfSome, ◌||◌, is_some, option_map, option_and_then, find, cond}
use Rattle.std.specs.List.{AllByRecursion, list_all, list_any, flat_map, filter_map}
use Rattle.std.proofs.lemmas.Bool.{ltb-true}
use Rattle.pv_base.specs.declared.name.Name.{Name}
use Rattle.ir_tree.specs.declared.instruction.Instruction.{Instruction}
use Rattle.ir_tree.specs.declared.items.Param.{Param}
use Rattle.ir_tree.specs.declared.items.Block.{Block}
use Rattle.ir_tree.specs.declared.items.Function.{Function}
use Rattle.ir_tree.specs.Table.{Table, IsTable, same_name}
use Rattle.ir_tree.specs.Trees.{TypeV}
use Rattle.ir_tree.specs.Naming.{name_at}
use Rattle.ir_tree.specs.Shown.{shown_block, shown_function}
use Rattle.ir_tree.proofs.Bodies.{each_same}
use Rattle.ir_rules.specs.declared.given.Defined.{Defined}
use Rattle.ir_rules.specs.declared.given.Given.{Given}
use Rattle.ir_rules.specs.Forms.{result_of}
use Rattle.ir_rules.specs.Heads.{shown_defined, shown_given, found_type}
use Rattle.ir_rules.specs.Defining.{given_type, argument_of, defined_in, defined, register_type}
use Rattle.ir_rules.specs.Numbering.{is_name, name_within, result_within, param_within, block_within, instruction_within, function_within}
use Rattle.ir_rules.proofs.SameLemmas.{and_both}
use Rattle.ir_rules.proofs.ShownLemmas.{register_is}
use Rattle.ir_code.specs.Places.{place_of}
use Rattle.ir_code.specs.Places as places
use Rattle.resolving_laws.specs.Resolved.{result_name, register_names}
use Rattle.resolving_laws.proofs.Options.{all_append}
use Rattle.resolving_laws.proofs.Lists.{some_or_none, from_list_all, zipped, all_left, all_right, all_made, all_filter, of_filter, all_flat, of_flat}

-- ---- where a name has no place, no item has it

none_if : (x : ℕ) (n : Option ℕ) (ns : List (Option ℕ)) (b : Bool) → places.is_name x n ≡ b → (place_of ns x ≡ None → AllByRecursion (λ y. y ≡ Some x → ⊥) ns) → (if b then Some 0 else option_map suc (place_of ns x)) ≡ None → AllByRecursion (λ y. y ≡ Some x → ⊥) (n ∷ ns)
none_if x n ns true e rest is = absurd cc
none_if x n ns false e rest is = (λ h. other n e h, rest (none_of (place_of ns x) is))
  where
    none_of : (o : Option ℕ) → option_map suc o ≡ None → o ≡ None
    none_of None h = refl
    none_of (Some k) h = absurd cc

    other : (n : Option ℕ) → places.is_name x n ≡ false → n ≡ Some x → ⊥
    other n e is = let same : places.is_name x (Some x) ≡ false = ap (places.is_name x) (sym is) ∙ e in let self : nat_eq x x ≡ true = eq-eqb x x refl in absurd cc

pub none_among : (x : ℕ) (ns : List (Option ℕ)) → place_of ns x ≡ None → AllByRecursion (λ y. y ≡ Some x → ⊥) ns
none_among x [] e = tt
none_among x (n ∷ ns) e = none_if x n ns (places.is_name x n) refl (none_among x ns) e

-- ---- names of a table

module _ (t : Table) (table : IsTable t) where
  pub same_number : (x y : ℕ) → is_name t x ≡ true → is_name t y ≡ true → nat_eq x y ≡ same_name (name_at t x) (name_at t y)
  same_number x y a b = each_same t x y table (ltb-true x (length t.names) a) (ltb-true y (length t.names) b)

  -- ---- registers

  -- what a function defines is of the table, and no register of this name
  abbrev Other : ℕ → Defined ℕ ℕ → Type 0
  Other x d = (is_name t d.name ≡ true) × (is_some d.of ≡ true → d.name ≡ x → ⊥)

  argument_other : (x : ℕ) (p : Param ℕ ℕ) (o : Option ℕ) → p.name ≡ o → name_within t o ≡ true → (o ≡ Some x → ⊥) → IfSome (argument_of p) (Other x)
  argument_other x p None e within not = rw e tt
  argument_other x p (Some n) e within not = rw e (within, λ s h. not (ap Some h))

  result_other : (x : ℕ) (o : Option (Defined ℕ ℕ)) → result_within t o ≡ true → IfSome (option_map (λ d. Some d.name) o) (λ y. y ≡ Some x → ⊥) → IfSome o (Other x)
  result_other x None within not = tt
  result_other x (Some d) within not = (within, λ s h. not (ap Some h))

  results_other : (x : ℕ) (is : List (Instruction ℕ ℕ ℕ)) → list_all (instruction_within t) is ≡ true → AllByRecursion (λ y. y ≡ Some x → ⊥) (filter_map result_name is) → AllByRecursion (Other x) (filter_map result_of is)
  results_other x is within not =
      all_filter result_of (Other x) is
      (zipped (λ i. instruction_within t i ≡ true) (λ i. IfSome (result_name i) (λ y. y ≡ Some x → ⊥)) (λ i. IfSome (result_of i) (Other x))
      (λ i w n. result_other x (result_of i) (and_both _ _ (and_both _ _ (and_both _ _ (and_both _ _ (and_both _ _ (and_both _ _ (and_both _ _ w).0).0).0).0).0).0).0 n) is
      (from_list_all (instruction_within t) is within) (of_filter result_name (λ y. y ≡ Some x → ⊥) is not))

  all_other : (x : ℕ) (f : Function ℕ ℕ ℕ) → function_within t f ≡ true → place_of (register_names f) x ≡ None → AllByRecursion (Other x) (defined f)
  all_other x f within none =
      let not = none_among x (register_names f) none in
      let w = and_both _ (list_all (block_within t) f.blocks) within in
      let ps = (and_both _ (list_all (param_within t) f.params) w.0).1 in
      all_append (Other x) (filter_map argument_of f.params) (flat_map defined_in f.blocks)
      (all_filter argument_of (Other x) f.params
      (zipped (λ p. param_within t p ≡ true) (λ p. p.name ≡ Some x → ⊥) (λ p. IfSome (argument_of p) (Other x))
      (λ p v n. argument_other x p p.name refl (and_both _ _ v).0 n) f.params (from_list_all (param_within t) f.params ps)
      (all_made (λ (p : Param ℕ ℕ). p.name) (λ y. y ≡ Some x → ⊥) f.params (all_left (λ y. y ≡ Some x → ⊥) (map (λ p. p.name) f.params) (flat_map (λ b. filter_map result_name b.instructions) f.blocks) not))))
      (all_flat defined_in (Other x) f.blocks
      (zipped (λ b. block_within t b ≡ true) (λ b. AllByRecursion (λ y. y ≡ Some x → ⊥) (filter_map result_name b.instructions)) (λ b. AllByRecursion (Other x) (defined_in b))
      (λ b v n. let p = and_both (is_name t b.label) (list_all (instruction_within t) b.instructions) v in ((p.0, λ s h. absurd cc), results_other x b.instructions p.1 n)) f.blocks (from_list_all (block_within t) f.blocks w.1)
      (of_flat (λ (b : Block ℕ ℕ ℕ). filter_map result_name b.instructions) (λ y. y ≡ Some x → ⊥) f.blocks (all_right (λ y. y ≡ Some x → ⊥) (map (λ p. p.name) f.params) (flat_map (λ b. filter_map result_name b.instructions) f.blocks) not))))

  given_none : (o : Option (Given ℕ)) → (is_some o ≡ true → ⊥) → is_some (option_map given_type (option_map (shown_given t) o)) ≡ true → ⊥
  given_none None not e = absurd cc
  given_none (Some g) not e = not refl

  found_if : (x : ℕ) (d : Defined ℕ ℕ) (rest : Option (Defined Name TypeV)) (b : Bool) → same_name (name_at t x) (name_at t d.name) ≡ b → is_name t x ≡ true → Other x d
      → (is_some (option_and_then (λ e. option_map given_type e.of) rest) ≡ true → ⊥) → is_some (option_and_then (λ e. option_map given_type e.of) (cond b (Some (shown_defined t d)) rest)) ≡ true → ⊥
  found_if x d rest true e own other not is = given_none d.of (λ s. other.1 s (sym (eqb-true x d.name (same_number x d.name own other.0 ∙ e)))) is
  found_if x d rest false e own other not is = not is

  found_none : (x : ℕ) (ds : List (Defined ℕ ℕ)) → is_name t x ≡ true → AllByRecursion (Other x) ds → is_some (found_type t ds (name_at t x)) ≡ true → ⊥
  found_none x [] own all e = absurd cc
  found_none x (d ∷ ds) own all e = found_if x d (find (λ d. same_name (name_at t x) d.name) (map (shown_defined t) ds)) (same_name (name_at t x) (name_at t d.name)) refl own all.0 (found_none x ds own all.1) e

  pub register_known : (f : Function ℕ ℕ ℕ) (x : ℕ) → function_within t f ≡ true → is_name t x ≡ true → is_some (register_type (shown_function t f) (name_at t x)) ≡ true → (r : ℕ) × (place_of (register_names f) x ≡ Some r)
  register_known f x within own known = elim (some_or_none (place_of (register_names f) x)) [
    | inl r ↦ r
    | inr none ↦ absurd (found_none x (defined f) own (all_other x f within none) (ap is_some (sym (register_is t f (name_at t x))) ∙ known))
  ]

  -- ---- labels

  label_if : (x : ℕ) (b : Block ℕ ℕ ℕ) (rest : Option ℕ) (c : Bool) → nat_eq x b.label ≡ c → is_some (if c then Some 0 else option_map suc rest) ≡ (c || is_some rest)
  label_if x b rest true e = refl
  label_if x b None false e = refl
  label_if x b (Some k) false e = refl

  pub labels_known : (x : ℕ) (bs : List (Block ℕ ℕ ℕ)) → is_name t x ≡ true → list_all (block_within t) bs ≡ true → is_some (place_of (map (λ b. Some b.label) bs) x) ≡ list_any (λ b. same_name (name_at t x) b.label) (map (shown_block t) bs)
  labels_known x [] own within = refl
  labels_known x (b ∷ bs) own within =
      let w = and_both (block_within t b) (list_all (block_within t) bs) within in
      let l = and_both (is_name t b.label) (list_all (instruction_within t) b.instructions) w.0 in
      label_if x b (place_of (map (λ b. Some b.label) bs) x) (nat_eq x b.label) refl
      ∙ ap (λ c. c || is_some (place_of (map (λ (b : Block ℕ ℕ ℕ). Some b.label) bs) x)) (same_number x b.label own l.0)
      ∙ ap (λ c. same_name (name_at t x) (name_at t b.label) || c) (labels_known x bs own w.1)
