-- The types of names, by the names' numbers.
use Rattle.std.proofs.Common.{◌≡◌, ℕ, zero, suc, ◌<◌, Bool, true, false, List, [], ◌∷◌, ◌++◌, length, Option, Some, None, slice_get, get_or, refl, sym, ap, ◌∙◌, arith, inl, inr, eqb, eqb-true, eq-eqb, get_or-set_other, get_or-set_same}
use Rattle.std.specs.Prelude.{option_map, nat_eq, if◌then◌else◌, is_some, not}
use Rattle.std.proofs.Math.ListN.{set}
use Rattle.std.specs.List.{AllByRecursion}
use Rattle.std.proofs.lemmas.Bool.{cases_Bool}
use Rattle.std.proofs.lemmas.Option.{get_or_from_slice_get, slice_get-get_or}
use lib.Pointwise.{bytes_decides}
use Rattle.pv_base.specs.declared.name.Name.{Name}
use Rattle.pv_base.specs.declared.name.Name.TheVariants.{Named, Numbered}
use Rattle.ir_tree.specs.declared.items.NamedType.{NamedType}
use Rattle.ir_tree.specs.Table.{Table, IsTable, same_name}
use Rattle.ir_tree.specs.Trees.{TypeV}
use Rattle.ir_tree.specs.Naming.{name_at, type_at}
use Rattle.ir_tree.specs.Layouts.{type_named}
use Rattle.ir_tree.specs.Filling.{body_of, NamedWithin, named_types}
use Rattle.ir_tree.proofs.Places.{one_place}

some_if : (m n : NamedType ℕ ℕ) (ns : List (NamedType ℕ ℕ)) (x b : ℕ) (c : Bool) → (if c then Some m.of else body_of ns x) ≡ Some b → (body_of ns x ≡ Some b → body_of (ns ++ n ∷ []) x ≡ Some b)
    → (if c then Some m.of else body_of (ns ++ n ∷ []) x) ≡ Some b
some_if m n ns x b true e rest = e
some_if m n ns x b false e rest = rest e

pub body_push_some : (ns : List (NamedType ℕ ℕ)) (n : NamedType ℕ ℕ) (x b : ℕ) → body_of ns x ≡ Some b → body_of (ns ++ n ∷ []) x ≡ Some b
body_push_some [] n x b e = absurd cc
body_push_some (m ∷ ns) n x b e = some_if m n ns x b (nat_eq x m.name) e (body_push_some ns n x b)

none_if : (m n : NamedType ℕ ℕ) (ns : List (NamedType ℕ ℕ)) (x : ℕ) (o : Option ℕ) (c : Bool) → (if c then Some m.of else body_of ns x) ≡ None → (body_of ns x ≡ None → body_of (ns ++ n ∷ []) x ≡ o)
    → (if c then Some m.of else body_of (ns ++ n ∷ []) x) ≡ o
none_if m n ns x o true e rest = absurd cc
none_if m n ns x o false e rest = rest e

pub body_push_none : (ns : List (NamedType ℕ ℕ)) (n : NamedType ℕ ℕ) (x : ℕ) → body_of ns x ≡ None → body_of (ns ++ n ∷ []) x ≡ body_of (n ∷ []) x
body_push_none [] n x e = refl
body_push_none (m ∷ ns) n x e = none_if m n ns x (body_of (n ∷ []) x) (nat_eq x m.name) e (body_push_none ns n x)

body_first : (n : NamedType ℕ ℕ) (x : ℕ) → x ≡ n.name → body_of (n ∷ []) x ≡ Some n.of
body_first n x e = let is : nat_eq x n.name ≡ true = eq-eqb x n.name e in rw is refl

body_not_first : (n : NamedType ℕ ℕ) (x : ℕ) → nat_eq x n.name ≡ false → body_of (n ∷ []) x ≡ None
body_not_first n x is = rw is refl

kept : (ns : List (NamedType ℕ ℕ)) (n : NamedType ℕ ℕ) (x : ℕ) → nat_eq x n.name ≡ false → (o : Option ℕ) → body_of ns x ≡ o → o ≡ body_of (ns ++ n ∷ []) x
kept ns n x other None is = sym (body_push_none ns n x is ∙ body_not_first n x other)
kept ns n x other (Some b) is = sym (body_push_some ns n x b is)

-- a name that had no type yet gets one
pub bodies_set : (ns : List (NamedType ℕ ℕ)) (n : NamedType ℕ ℕ) (old : List (Option ℕ)) (count : ℕ) → length old ≡ count → ((x : ℕ) → x < count → get_or old x None ≡ body_of ns x) → n.name < count → get_or old n.name None ≡ None
    → (x : ℕ) → x < count → get_or (set old n.name (Some n.of)) x None ≡ body_of (ns ++ n ∷ []) x
bodies_set ns n old count len each lt none x within =
    elim (cases_Bool (nat_eq x n.name)) [
      | inl same ↦
          let e : x ≡ n.name = eqb-true x n.name same in
          let lt2 : n.name < length old = omega arith in
          let no : body_of ns x ≡ None = sym (each x within) ∙ (rw e none) in
          rw (body_push_none ns n x no, body_first n x e) (rw (e, get_or-set_same) refl)
      | inr other ↦
          let ne : (x ≡ n.name → ⊥) = λ (e : x ≡ n.name). let clash : eqb x n.name ≡ true = eq-eqb x n.name e in absurd cc in
          let there : get_or (set old n.name (Some n.of)) x None ≡ get_or old x None = rw get_or-set_other refl in
          there ∙ each x within ∙ kept ns n x other (body_of ns x) refl
    ]

-- a name that had a type keeps it
pub bodies_kept : (ns : List (NamedType ℕ ℕ)) (n : NamedType ℕ ℕ) (old : List (Option ℕ)) (count b : ℕ) → ((x : ℕ) → x < count → get_or old x None ≡ body_of ns x) → get_or old n.name None ≡ Some b
    → (x : ℕ) → x < count → get_or old x None ≡ body_of (ns ++ n ∷ []) x
bodies_kept ns n old count b each some x within =
    elim (cases_Bool (nat_eq x n.name)) [
      | inl same ↦
          let e : x ≡ n.name = eqb-true x n.name same in
          let at : get_or old x None ≡ Some b = rw e some in
          at ∙ sym (body_push_some ns n x b (sym (each x within) ∙ at))
      | inr other ↦ each x within ∙ kept ns n x other (body_of ns x) refl
    ]

-- ---- by names and by numbers it is the same

not_same : (b : Bool) → (b ≡ true → ⊥) → b ≡ false
not_same true h = absurd (h refl)
not_same false h = refl

same_is : (a b : Name) → same_name a b ≡ true → a ≡ b
same_is (Named a) (Named b) e = ap Named ((bytes_decides a b).0 e)
same_is (Numbered a) (Numbered b) e = ap Numbered (eqb-true a b e)
same_is (Named a) (Numbered b) e = absurd cc
same_is (Numbered a) (Named b) e = absurd cc

pub same_self : (a : Name) → same_name a a ≡ true
same_self (Named a) = (bytes_decides a a).1 refl
same_self (Numbered a) = eq-eqb a a refl

pub each_same : (t : Table) (x y : ℕ) → IsTable t → x < length t.names → y < length t.names → nat_eq x y ≡ same_name (name_at t x) (name_at t y)
each_same t x y is lt within =
    let at : slice_get t.names x ≡ Some (name_at t x) = slice_get-get_or t.names x (Numbered 0) lt in
    let to : slice_get t.names y ≡ Some (name_at t y) = slice_get-get_or t.names y (Numbered 0) within in
    elim (cases_Bool (nat_eq x y)) [
      | inl same ↦
          let e : x ≡ y = eqb-true x y same in
          rw (same, e) (sym (same_self (name_at t y)))
      | inr other ↦ other ∙ sym (not_same (same_name (name_at t x) (name_at t y)) (λ h.
          let e : name_at t x ≡ name_at t y = same_is (name_at t x) (name_at t y) h in
          let place : x ≡ y = one_place same_name (name_at t x) (same_self (name_at t x)) t.names x y is.distinct at (to ∙ ap Some (sym e)) in
          let clash : eqb x y ≡ true = eq-eqb x y place in
          absurd cc))
    ]

named_if : (t : Table) (n : NamedType ℕ ℕ) (o : Option TypeV) (p : Option ℕ) (b : Bool) → o ≡ option_map (type_at t) p → (if b then Some (type_at t n.of) else o) ≡ option_map (type_at t) (if b then Some n.of else p)
named_if t n o p true e = refl
named_if t n o p false e = e

pub named_body : (t : Table) (ns : List (NamedType ℕ ℕ)) (x : ℕ) → IsTable t → AllByRecursion (NamedWithin t) ns → x < length t.names → type_named (named_types t ns) (name_at t x) ≡ option_map (type_at t) (body_of ns x)
named_body t [] x is all lt = refl
named_body t (n ∷ ns) x is all lt =
    rw (← each_same t x n.name is lt all.0.name) (named_if t n (type_named (named_types t ns) (name_at t x)) (body_of ns x) (nat_eq x n.name) (named_body t ns x is all.1 lt))

inside_if : (t : Table) (n : NamedType ℕ ℕ) (p : Option ℕ) (b : ℕ) (c : Bool) → n.of < length t.types → (p ≡ Some b → b < length t.types) → (if c then Some n.of else p) ≡ Some b → b < length t.types
inside_if t n p b true lt rest e = let is : n.of ≡ b = cc in omega arith
inside_if t n p b false lt rest e = rest e

pub body_inside : (t : Table) (ns : List (NamedType ℕ ℕ)) (x b : ℕ) → AllByRecursion (NamedWithin t) ns → body_of ns x ≡ Some b → b < length t.types
body_inside t [] x b all e = absurd cc
body_inside t (n ∷ ns) x b all e = inside_if t n (body_of ns x) b (nat_eq x n.name) all.0.of (body_inside t ns x b all.1) e

pub body_known : (bodies : List (Option ℕ)) (x b : ℕ) → get_or bodies x None ≡ Some b → x < length bodies
body_known [] x b e = absurd cc
body_known (o ∷ os) zero b e = omega arith
body_known (o ∷ os) (suc x) b e = let lt = body_known os x b e in omega arith

-- what a look at a body says
pub read_none : (xs : List (Option ℕ)) (k : ℕ) (v : Option ℕ) (b : Bool) → slice_get xs k ≡ Some v → is_some v ≡ not b → b ≡ true → get_or xs k None ≡ None
read_none xs k None b e told is = get_or_from_slice_get xs k None None e
read_none xs k (Some m) b e told is = let no : true ≡ not true = told ∙ ap not is in absurd cc

pub read_some : (xs : List (Option ℕ)) (k : ℕ) (v : Option ℕ) (b : Bool) → slice_get xs k ≡ Some v → is_some v ≡ not b → b ≡ false → (m : ℕ) × (get_or xs k None ≡ Some m)
read_some xs k (Some m) b e told is = (m, get_or_from_slice_get xs k (Some m) None e)
read_some xs k None b e told is = let no : false ≡ not false = told ∙ ap not is in absurd cc
