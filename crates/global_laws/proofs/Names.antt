-- A name that a module knows is that of an item.
use Rattle.std.proofs.Common.{◌≡◌, ◌∙◌, ◌+◌, ℕ, pos, Bool, true, false, List, [], ◌∷◌, length, map, Option, Some, None, refl, sym, slice_get, if◌then◌else◌, ◌⊎◌, inl, inr}
use Rattle.std.specs.Prelude.{is_some, ◌||◌}
use Rattle.std.specs.List.{AllByRecursion, list_any, list_all}
use Rattle.std.proofs.lemmas.Option.{slice_get-get_or}
use Rattle.std.proofs.lemmas.Bool.{ltb-true}
use Rattle.pv_base.specs.declared.name.Name.{Name}
use Rattle.pv_base.specs.declared.name.Name.TheVariants.{Numbered}
use Rattle.ir_tree.specs.declared.items.Global.{Global as Variable}
use Rattle.ir_tree.specs.declared.items.Function.{Function}
use Rattle.ir_tree.specs.Modules.{Items}
use Rattle.ir_tree.specs.Naming.{name_at}
use Rattle.ir_tree.specs.Table.{Table, same_name}
use Rattle.ir_tree.specs.Shown.{shown_global, shown_function}
use Rattle.ir_code.specs.declared.op.Fixed.{Fixed}
use Rattle.ir_code.specs.declared.op.Fixed.TheVariants as fixed
use Rattle.ir_code.specs.Fixed.{goes_by, first_item, item_named}
use Rattle.ir_rules.specs.Seen.{seen}
use Rattle.ir_rules.specs.Defining.{is_global}
use Rattle.ir_rules.specs.Numbering.{is_name, global_within, function_within, is_within}
use Rattle.ir_rules.proofs.SameLemmas.{and_both}
use Rattle.global_laws.specs.Filled.{is_address}

pub some_of : {A : Type 0} (o : Option A) → is_some o ≡ true → (a : A) × (o ≡ Some a)
some_of None e = absurd (cc)
some_of (Some a) e = (a, refl)

or_true : (a b : Bool) → (a || b) ≡ true → (a ≡ true) ⊎ (b ≡ true)
or_true true b e = inl refl
or_true false b e = inr e

goes : (t : Table) (x : Name) (k : ℕ) → is_name t k ≡ true → goes_by t x k ≡ same_name x (name_at t k)
goes t x k e =
    let at : slice_get t.names k ≡ Some (name_at t k) = slice_get-get_or t.names k (Numbered 0) (ltb-true k (length t.names) e) in
    rw at refl

globals_go : (t : Table) (x : Name) (gs : List (Variable ℕ ℕ ℕ)) → list_all (global_within t) gs ≡ true → AllByRecursion (λ g. goes_by t x g.name ≡ same_name x (shown_global t g).name) gs
globals_go t x [] e = tt
globals_go t x (g ∷ gs) e = let h = and_both (global_within t g) (list_all (global_within t) gs) e in (goes t x g.name (and_both _ _ (and_both _ _ h.0).0).0, globals_go t x gs h.1)

functions_go : (t : Table) (x : Name) (fs : List (Function ℕ ℕ ℕ)) → list_all (function_within t) fs ≡ true → AllByRecursion (λ f. goes_by t x f.name ≡ same_name x (shown_function t f).name) fs
functions_go t x [] e = tt
functions_go t x (f ∷ fs) e = let h = and_both (function_within t f) (list_all (function_within t) fs) e in (goes t x f.name (and_both _ _ (and_both _ _ (and_both _ _ h.0).0).0).0, functions_go t x fs h.1)

behind : (a b : Bool) (P : Type 0) → a ≡ false → ((a || b) ≡ true) ⊎ P → (b ≡ true) ⊎ P
behind a b P e (inr p) = inr p
behind true b P e (inl h) = absurd (cc)
behind false b P e (inl h) = inl h

-- an item is found where one passes, or another was found
found_first : {X Y : Type 0} (p : X → Bool) (q : Y → Bool) (h : X → Y) (item : ℕ → Fixed) → ((i : ℕ) → is_address (Some (item i)) ≡ true) → (i : ℕ) (xs : List X) (other : Option Fixed) → AllByRecursion (λ x. p x ≡ q (h x)) xs
    → (list_any q (map h xs) ≡ true) ⊎ (is_address other ≡ true) → is_address (first_item p item i xs other) ≡ true
found_first p q h item a i [] other all (inl e) = absurd (cc)
found_first p q h item a i [] other all (inr e) = e
found_first p q h item a i (x ∷ xs) other all e = (elim (p x) as (λ b. p x ≡ b → is_address (if b then Some (item i) else first_item p item (i + 1) xs other) ≡ true) [
  | true ↦ λ r. a i
  | false ↦ λ r. found_first p q h item a (i + 1) xs other all.1 (behind (q (h x)) (list_any q (map h xs)) (is_address other ≡ true) (sym all.0 ∙ r) e)
]) refl

pub named_found : (m : Items) (x : Name) → is_within m ≡ true → is_global (seen m) x ≡ true → is_address (item_named m x) ≡ true
named_found m x within e =
    let w = and_both _ _ within in
    let v = and_both _ _ w.0 in
    let gs = globals_go m.names x m.globals v.0 in
    let fs = functions_go m.names x m.functions v.1 in
    let others = first_item (λ (f : Function ℕ ℕ ℕ). goes_by m.names x f.name) fixed.Function 0 m.functions None in
    let here = found_first (λ (g : Variable ℕ ℕ ℕ). goes_by m.names x g.name) (λ g. same_name x g.name) (shown_global m.names) (λ i. fixed.Global i (pos 0)) (λ i. refl) 0 m.globals others gs in
    let there = found_first (λ (f : Function ℕ ℕ ℕ). goes_by m.names x f.name) (λ f. same_name x f.name) (shown_function m.names) fixed.Function (λ i. refl) 0 m.functions None fs in
    elim (or_true _ _ e) [
      | inl g ↦ here (inl g)
      | inr f ↦ here (inr (there (inl f)))
    ]
