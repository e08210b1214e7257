-- Layouts by number: those of a node's parts give its own, and a table that grows keeps them.
use Rattle.std.proofs.Common.{◌≡◌, ℕ, zero, suc, ◌+◌, ◌<◌, ◌≤◌, Bool, true, false, List, [], ◌∷◌, ◌++◌, map, take, length, Option, Some, None, Result, Ok, Err, slice_get, get_or, refl, sym, ap, subst, ◌∙◌, arith}
use Rattle.std.specs.Prelude.{IfSome, OnOk, OnErr, option_and_then, fold, nat_eq, ◌||◌, if◌then◌else◌}
use borrow.Author.Count.{below_more}
use Rattle.std.specs.List.{AllByRecursion}
use Rattle.std.proofs.lemmas.List.{get_or_append_left, length-append, get_or-take}
use Rattle.std.proofs.Math.Seq.{get_or-append_seam}
use Rattle.std.proofs.lemmas.List.Elements.{recursion_from_All}
use Rattle.std.proofs.lemmas.Option.{get_or_from_slice_get, slice_get-get_or}
use Rattle.pv_base.specs.declared.name.Name.{Name}
use Rattle.pv_base.specs.declared.want.Memory.{Memory}
use Rattle.pv_base.specs.declared.name.Name.TheVariants.{Numbered}
use Rattle.ir_tree.specs.declared.layout.Layout.{Layout}
use Rattle.ir_tree.specs.declared.nodes.TypeNode.{TypeNode}
use Rattle.ir_tree.specs.declared.nodes.TypeNode.TheVariants as node
use Rattle.ir_tree.specs.Table.{Table, IsTable, TypeWithin}
use Rattle.ir_tree.specs.Trees.{TypeV, IntV, PtrV, VoidV, ArrayV, StructV, NamedV, TypesV, NoneV, MoreV}
use Rattle.ir_tree.specs.Naming.{Grows, meanings, name_at, type_at, type_of_node}
use Rattle.ir_tree.specs.Layouts.{sized, round_up, int_layout, array_layout, joined, no_fields, struct_layout, layout_with, layouts_with}
use Rattle.ir_tree.specs.Bounds.{IsLayout}
use Rattle.ir_tree.specs.Filling.{answer_at, node_layout, AreBounded}
use Rattle.ir_tree.proofs.Bounded.{sized_bound, joined_bound}
use Rattle.ir_tree.proofs.Showing.{meaning_from, type_within_more, types_same}
use Rattle.ir_tree.proofs.Filled.{type_is, fields_by}
use Rattle.ir_text.specs.MemoryTypes.{AreLaid}

node_by : (named : Name → Option Layout) (name : ℕ → Name) (at : ℕ → TypeV) (n : TypeNode) → layout_with named (type_of_node name at n) ≡ node_layout (λ j. layout_with named (at j)) (λ x. named (name x)) n
node_by named name at (node.Int w) = refl
node_by named name at node.Ptr = refl
node_by named name at node.Void = refl
node_by named name at (node.Array n of) = refl
node_by named name at (node.Struct packed ks) = ap (struct_layout packed) (fields_by named at ks)
node_by named name at (node.Named x) = refl

maps_same : (f g : ℕ → Option Layout) (k : ℕ) (js : List ℕ) → AllByRecursion (λ j. j < k) js → ((j : ℕ) → j < k → f j ≡ g j) → map f js ≡ map g js
maps_same f g k [] below same = refl
maps_same f g k (j ∷ js) below same =
    let first : f j ≡ g j = same j below.0 in
    let others = maps_same f g k js below.1 same in
    cc

-- a node's layout rests on what is found for smaller numbers alone
parts_same : (f g name : ℕ → Option Layout) (names k : ℕ) (n : TypeNode) → TypeWithin names k n → ((j : ℕ) → j < k → f j ≡ g j) → node_layout f name n ≡ node_layout g name n
parts_same f g name names k (node.Int w) within same = refl
parts_same f g name names k node.Ptr within same = refl
parts_same f g name names k node.Void within same = refl
parts_same f g name names k (node.Array n of) within same = ap (array_layout n) (same of within)
parts_same f g name names k (node.Struct packed ks) within same = ap (struct_layout packed) (maps_same f g k ks (recursion_from_All (λ j. j < k) ks within) same)
parts_same f g name names k (node.Named x) within same = refl

-- ---- bounds

array_bound : (n : ℕ) (l : Option Layout) → IfSome l IsLayout → IfSome (array_layout n l) IsLayout
array_bound n None h = tt
array_bound n (Some l) h = sized_bound _ l.align h.least h.most

fold_bound : (packed : Bool) (so : Option Layout) (at : ℕ → Option Layout) (ks : List ℕ) → IfSome so IsLayout → ((k : ℕ) → IfSome (at k) IsLayout) → IfSome (fold (joined packed) so (map at ks)) IsLayout
fold_bound packed so at [] h all = h
fold_bound packed so at (k ∷ ks) h all = fold_bound packed (joined packed so (at k)) at ks (joined_bound packed so (at k) h (all k)) all

padded_bound : (so : Option Layout) → IfSome so IsLayout → IfSome (option_and_then (λ (s : Layout). sized (round_up s.size s.align) s.align) so) IsLayout
padded_bound None h = tt
padded_bound (Some l) h = sized_bound _ l.align h.least h.most

none_bound : IfSome no_fields IsLayout
none_bound = record { size = omega arith; least = omega arith; most = omega arith }

one_bound : (n : ℕ) → 0 < n → n ≤ 8 → IsLayout (record { size = n; align = n })
one_bound n least most = record { size = omega arith; least = least; most = most }

int_if : (a b c d : Bool) → IfSome (if a then Some (record { size = 1; align = 1 }) else (if b then Some (record { size = 2; align = 2 }) else (if c then Some (record { size = 4; align = 4 }) else (if d then Some (record { size = 8; align = 8 }) else None)))) IsLayout
int_if true b c d = one_bound 1 (omega arith) (omega arith)
int_if false true c d = one_bound 2 (omega arith) (omega arith)
int_if false false true d = one_bound 4 (omega arith) (omega arith)
int_if false false false true = one_bound 8 (omega arith) (omega arith)
int_if false false false false = tt

int_bound : (w : ℕ) → IfSome (int_layout w) IsLayout
int_bound w = int_if (nat_eq w 1 || nat_eq w 8) (nat_eq w 16) (nat_eq w 32) (nat_eq w 64)

pub node_bound : (at named : ℕ → Option Layout) (n : TypeNode) → ((k : ℕ) → IfSome (at k) IsLayout) → ((x : ℕ) → IfSome (named x) IsLayout) → IfSome (node_layout at named n) IsLayout
node_bound at named (node.Int w) all names = int_bound w
node_bound at named node.Ptr all names = record { size = omega arith; least = omega arith; most = omega arith }
node_bound at named node.Void all names = tt
node_bound at named (node.Array n k) all names = array_bound n (at k) (all k)
node_bound at named (node.Struct packed ks) all names = padded_bound (fold (joined packed) no_fields (map at ks)) (fold_bound packed no_fields at ks none_bound all)
node_bound at named (node.Named x) all names = names x

bounded_more : (found : List (Option Layout)) (l : Option Layout) → AreBounded found → IfSome l IsLayout → (k : ℕ) → IfSome (answer_at (found ++ l ∷ []) k) IsLayout
bounded_more [] l all bound zero = bound
bounded_more [] l all bound (suc k) = tt
bounded_more (x ∷ xs) l all bound zero = all zero
bounded_more (x ∷ xs) l all bound (suc k) = bounded_more xs l (λ j. all (suc j)) bound k

-- ---- a type further

module _ (named : Name → Option Layout) (t : Table) (found : List (Option Layout)) (laid : AreLaid named t found) where
  pub node_laid : (n : TypeNode) → IsTable t → slice_get t.types (length found) ≡ Some n → node_layout (answer_at found) (λ x. named (name_at t x)) n ≡ layout_with named (type_at t (length found))
  node_laid n is known =
      parts_same (answer_at found) (λ j. layout_with named (type_at t j)) (λ x. named (name_at t x)) (length t.names) (length found) n (is.types (length found) n known) laid.each
      ∙ sym (node_by named (name_at t) (type_at t) n)
      ∙ ap (layout_with named) (sym (type_is t (length found) n is known))

  module _ (l : Option Layout) where
    at_left : (k : ℕ) → k < length found → answer_at (found ++ l ∷ []) k ≡ answer_at found k
    at_left k lt = get_or_append_left found (l ∷ []) None k lt

    at_last : answer_at (found ++ l ∷ []) (length found) ≡ l
    at_last = get_or-append_seam found l [] None

    pub laid_more : length found < length t.types → l ≡ layout_with named (type_at t (length found)) → IfSome l IsLayout → AreLaid named t (found ++ l ∷ [])
    laid_more lt is bound = record {
      few = omega (arith, length-append found (l ∷ []));
      each = λ k below. below_more (λ j. answer_at (found ++ l ∷ []) j ≡ layout_with named (type_at t j)) (length found) (λ j less. at_left j less ∙ laid.each j less) (at_last ∙ is) k (omega (arith, length-append found (l ∷ []), below));
      bounded = bounded_more found l laid.bounded bound;
    }

pub step_laid : (named : Name → Option Layout) (t : Table) (old new : List (Option Layout)) (k : ℕ) (n : TypeNode) (l : Option Layout) → AreLaid named t old → IsTable t → ((name : Name) → IfSome (named name) IsLayout)
    → k ≡ length old → slice_get t.types k ≡ Some n → length old < length t.types → l ≡ node_layout (answer_at old) (λ x. named (name_at t x)) n → new ≡ old ++ l ∷ [] → AreLaid named t new
step_laid named t old new k n l laid is bounds at known lt l_is new_is =
    let here : slice_get t.types (length old) ≡ Some n = subst (λ (j : ℕ). slice_get t.types j ≡ Some n) at known in
    let bound : IfSome l IsLayout = rw l_is (node_bound (answer_at old) (λ x. named (name_at t x)) n laid.bounded (λ x. bounds (name_at t x))) in
    rw new_is (laid_more named t old laid l lt (l_is ∙ node_laid named t old laid n is here) bound)

-- a step that may want memory
pub step_ends : (named : Name → Option Layout) (t : Table) (old new : List (Option Layout)) (r : Result (Unit {0}) Memory) (k : ℕ) (n : TypeNode) (l : Option Layout) → AreLaid named t old → IsTable t → ((name : Name) → IfSome (named name) IsLayout)
    → k ≡ length old → slice_get t.types k ≡ Some n → length old < length t.types → l ≡ node_layout (answer_at old) (λ x. named (name_at t x)) n → OnOk r (new ≡ old ++ l ∷ []) → OnErr r (new ≡ old) → AreLaid named t new
step_ends named t old new (Ok u) k n l laid is bounds at known lt l_is ok err = step_laid named t old new k n l laid is bounds at known lt l_is ok
step_ends named t old new (Err e) k n l laid is bounds at known lt l_is ok err = subst (AreLaid named t) (sym err) laid

pub no_node : (types : List TypeNode) (k : ℕ) → None ≡ slice_get types k → k < length types → ⊥
no_node types k none lt =
    let here : slice_get types k ≡ Some (get_or types k node.Ptr) = slice_get-get_or types k node.Ptr lt in
    cc

-- ---- a later table

node_same : (f g : ℕ → Name) (names k : ℕ) (n : TypeNode) (at to : ℕ → TypeV) → TypeWithin names k n → ((x : ℕ) → x < names → f x ≡ g x) → ((j : ℕ) → j < k → at j ≡ to j) → type_of_node f at n ≡ type_of_node g to n
node_same f g names k (node.Int w) at to within spelled same = refl
node_same f g names k node.Ptr at to within spelled same = refl
node_same f g names k node.Void at to within spelled same = refl
node_same f g names k (node.Array n of) at to within spelled same = ap (ArrayV n) (same of within)
node_same f g names k (node.Struct packed ks) at to within spelled same = ap (StructV packed) (types_same at to k ks (recursion_from_All (λ j. j < k) ks within) same)
node_same f g names k (node.Named x) at to within spelled same = ap NamedV (spelled x within)

-- the type of a node, by the types of the numbers in it
pub type_by : (t : Table) (names k : ℕ) (n : TypeNode) → TypeWithin names k n → slice_get t.types k ≡ Some n → type_at t k ≡ type_of_node (name_at t) (type_at t) n
unfolding type_at
type_by t names k n within known =
    let all = meanings (type_of_node (name_at t)) PtrV [] t.types in
    meaning_from (type_of_node (name_at t)) PtrV [] t.types k n known
    ∙ node_same (name_at t) (name_at t) names k n (λ j. get_or (take k all) j PtrV) (λ j. get_or all j PtrV) within (λ x lt. refl) (λ j lt. get_or-take k all j PtrV lt)

module _ (a b : Table) (is_a : IsTable a) (grows : Grows a b) where
  pub name_kept : (x : ℕ) → x < length a.names → name_at b x ≡ name_at a x
  name_kept x lt = get_or_from_slice_get b.names x (get_or a.names x (Numbered 0)) (Numbered 0) (grows.names x _ (slice_get-get_or a.names x (Numbered 0) lt))

  kept_below : (m k : ℕ) → k < m → k < length a.types → type_at b k ≡ type_at a k
  kept_below zero k lt within = absurd (omega arith)
  kept_below (suc m) k lt within =
      let n : TypeNode = get_or a.types k node.Ptr in
      let known : slice_get a.types k ≡ Some n = slice_get-get_or a.types k node.Ptr within in
      let inside = is_a.types k n known in
      type_by b (length a.names) k n inside (grows.types k n known)
      ∙ node_same (name_at b) (name_at a) (length a.names) k n (type_at b) (type_at a) inside name_kept (λ j less. kept_below m j (omega arith) (omega arith))
      ∙ sym (type_by a (length a.names) k n inside known)

  -- a type stays what it is
  pub type_kept : (k : ℕ) → k < length a.types → type_at b k ≡ type_at a k
  type_kept k within = kept_below (k + 1) k (omega arith) within

  longer : (n : ℕ) → n ≤ length a.types → n ≤ length b.types
  longer zero le = omega arith
  longer (suc n) le = let lt : n < length b.types = type_within_more a b n grows (omega arith) in omega arith

  pub laid_later : (named : Name → Option Layout) (found : List (Option Layout)) → AreLaid named a found → AreLaid named b found
  laid_later named found laid =
      let few : length found ≤ length a.types = laid.few in
      record {
        few = longer (length found) few;
        each = λ k lt. laid.each k lt ∙ ap (layout_with named) (sym (type_kept k (omega arith)));
        bounded = laid.bounded;
      }

-- ---- the layouts of names

module _ (f g : Name → Option Layout) (same : (name : Name) → f name ≡ g name) where
  mutual
    pub layouts_by : (of : TypeV) → layout_with f of ≡ layout_with g of
    layouts_by (IntV w) = refl
    layouts_by PtrV = refl
    layouts_by VoidV = refl
    layouts_by (ArrayV n of) = ap (array_layout n) (layouts_by of)
    layouts_by (StructV packed fields) = ap (struct_layout packed) (fields_same fields)
    layouts_by (NamedV name) = same name

    fields_same : (fields : TypesV) → layouts_with f fields ≡ layouts_with g fields
    fields_same NoneV = refl
    fields_same (MoreV of rest) =
        let first = layouts_by of in
        let others = fields_same rest in
        cc
