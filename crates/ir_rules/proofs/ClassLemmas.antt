-- Classes of types, found one after another.
use Rattle.std.proofs.Common.{◌≡◌, ℕ, ◌<◌, ◌≤◌, ◌+◌, List, [], ◌∷◌, ◌++◌, length, Some, slice_get, refl, sym, ap, ◌∙◌, arith}
use Rattle.std.proofs.lemmas.List.Elements.{recursion_from_All}
use Rattle.pv_base.specs.declared.name.Name.{Name}
use Rattle.ir_tree.specs.declared.nodes.TypeNode.{TypeNode}
use Rattle.ir_tree.specs.declared.nodes.TypeNode.TheVariants as node
use Rattle.ir_tree.specs.Table.{Table, IsTable, TypeWithin}
use Rattle.ir_tree.specs.Trees.{TypeV, PtrV, ArrayV, StructV}
use Rattle.ir_tree.specs.Naming.{name_at, type_at, type_of_node}
use Rattle.ir_tree.proofs.Showing.{types_same}
use Rattle.ir_tree.proofs.Filled.{type_is}
use Rattle.ir_rules.specs.Same.{same_type}
use Rattle.ir_rules.specs.Classes.{type_below, ClassesBelow, AreClasses, IsNextClass}
use Rattle.ir_rules.proofs.SameLemmas.{type_is_same, type_self}
use Rattle.std.proofs.lemmas.Option.{slice_get_past}
use Rattle.ir_rules.proofs.TypeLemmas.{type_none}
use Rattle.ir_rules.proofs.Classed.{below_is, most_more, same_more, same_none, same_whole}
pub use Rattle.ir_rules.proofs.Classed.{eq_swap, class_past}

parts : (name : ℕ → Name) (names k : ℕ) (n : TypeNode) (at to : ℕ → TypeV) → TypeWithin names k n → ((j : ℕ) → j < k → at j ≡ to j) → type_of_node name at n ≡ type_of_node name to n
parts name names k (node.Int w) at to within same = refl
parts name names k node.Ptr at to within same = refl
parts name names k node.Void at to within same = refl
parts name names k (node.Array n of) at to within same = ap (ArrayV n) (same of within)
parts name names k (node.Struct packed ks) at to within same = ap (StructV packed) (types_same at to k ks (recursion_from_All (λ j. j < k) ks within) same)
parts name names k (node.Named x) at to within same = refl

-- the type of a node from those before it
pub node_below : (t : Table) (k j : ℕ) (n : TypeNode) → IsTable t → slice_get t.types j ≡ Some n → j ≤ k → type_at t j ≡ type_of_node (name_at t) (type_below t k) n
node_below t k j n is e le =
    type_is t j n is e ∙ parts (name_at t) (length t.names) j n (type_at t) (type_below t k) (is.types j n e) (λ i lt. sym (below_is (type_at t) PtrV k i (omega arith)))

-- one more class
pub classes_more : (t : Table) (classes : List ℕ) (class : ℕ) → ClassesBelow t classes → IsNextClass t classes (type_at t (length classes)) class → class ≤ length classes + 1 → ClassesBelow t (classes ++ class ∷ [])
classes_more t classes class b next most = record {
  same = same_more same_type type_is_same type_self (type_at t) PtrV classes class b.same next.same;
  most = most_more classes class b.most most;
}

pub no_classes : (t : Table) → ClassesBelow t []
no_classes t = record {
  same = same_none same_type type_is_same type_self (type_at t) PtrV;
  most = λ i. omega arith;
}

pub classes_whole : (t : Table) (classes : List ℕ) → length classes ≡ length t.types → ClassesBelow t classes → AreClasses t classes
classes_whole t classes len b = record {
  same = same_whole same_type type_is_same type_self (type_at t) PtrV classes (λ j ge. type_none t j (slice_get_past t.types j (omega arith))) b.same;
}
