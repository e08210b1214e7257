-- Classes of constants, found one after another.
use Rattle.std.proofs.Common.{◌≡◌, ℕ, ◌<◌, ◌≤◌, ◌+◌, List, [], ◌∷◌, ◌++◌, length, Some, slice_get, refl, sym, ap, ◌∙◌, arith, All}
use Rattle.std.specs.List.{AllByRecursion}
use Rattle.std.proofs.lemmas.List.Elements.{recursion_from_All}
use Rattle.std.proofs.lemmas.Option.{slice_get_past}
use Rattle.pv_base.specs.declared.name.Name.{Name}
use Rattle.ir_tree.specs.declared.nodes.ConstantNode.{ConstantNode}
use Rattle.ir_tree.specs.declared.nodes.ConstantNode.TheVariants as node
use Rattle.ir_tree.specs.declared.nodes.Element.{Element}
use Rattle.ir_tree.specs.Table.{Table, IsTable, ConstantWithin, ElementBefore}
use Rattle.ir_tree.specs.Trees.{TypeV, ConstantV, NullC, ArrayC, StructC, AddressC, ElementsV}
use Rattle.ir_tree.specs.Naming.{name_at, type_at, constant_at, constant_of_node, elements_by}
use Rattle.ir_tree.proofs.Showing.{elements_same}
use Rattle.ir_rules.specs.Same.{same_constant}
use Rattle.ir_checker.specs.ConstantClasses.{KindsBelow, AreKinds, IsNextKind}
use Rattle.ir_rules.specs.Heads.{constant_below}
use Rattle.ir_checker.proofs.ConstantSame.{constant_is_same, constant_self}
use Rattle.ir_rules.proofs.Classed.{most_more, same_more, same_none, same_whole}
use Rattle.ir_rules.proofs.ConstantLemmas.{below_is, constant_some, constant_none}

before : (types k : ℕ) (es : List Element) → AllByRecursion (ElementBefore types k) es → AllByRecursion (λ e. e.value < k) es
before types k [] all = tt
before types k (e ∷ es) all = (all.0.value, before types k es all.1)

elements_part : (type : ℕ → TypeV) (at to : ℕ → ConstantV) (types k : ℕ) (es : List Element) → All (ElementBefore types k) es → ((j : ℕ) → j < k → at j ≡ to j) → elements_by type at es ≡ elements_by type to es
elements_part type at to types k es within same = elements_same type at to k es (before types k es (recursion_from_All (ElementBefore types k) es within)) same

address_part : (of : TypeV) (a b : ConstantV) (i j : ElementsV) → a ≡ b → i ≡ j → AddressC of a i ≡ AddressC of b j
address_part of a b i j e f = cc

parts : (name : ℕ → Name) (of : ℕ → TypeV) (names types k : ℕ) (n : ConstantNode) (at to : ℕ → ConstantV) → ConstantWithin names types k n → ((j : ℕ) → j < k → at j ≡ to j) → constant_of_node name of at n ≡ constant_of_node name of to n
parts name of names types k (node.Integer n) at to within same = refl
parts name of names types k node.Null at to within same = refl
parts name of names types k node.Zero at to within same = refl
parts name of names types k (node.Text bytes) at to within same = refl
parts name of names types k (node.Array es) at to within same = ap ArrayC (elements_part of at to types k es within same)
parts name of names types k (node.Struct packed es) at to within same = ap (StructC packed) (elements_part of at to types k es within same)
parts name of names types k (node.Name x) at to within same = refl
parts name of names types k (node.Address inner base es) at to within same = address_part (of inner) _ _ _ _ (same base within.1) (elements_part of at to types k es within.2 same)

-- the constant of a node from those before it
pub node_below : (t : Table) (k j : ℕ) (n : ConstantNode) → IsTable t → slice_get t.constants j ≡ Some n → j ≤ k → constant_at t j ≡ constant_of_node (name_at t) (type_at t) (constant_below t k) n
node_below t k j n is e le =
    constant_some t j n e ∙ parts (name_at t) (type_at t) (length t.names) (length t.types) j n (constant_below t j) (constant_below t k) (is.constants j n e) (λ i lt. below_is t j i lt ∙ sym (below_is t k i (omega arith)))

-- one more class
pub classes_more : (t : Table) (classes : List ℕ) (class : ℕ) → KindsBelow t classes → IsNextKind t classes (constant_at t (length classes)) class → class ≤ length classes + 1 → KindsBelow t (classes ++ class ∷ [])
classes_more t classes class b next most = record {
  same = same_more same_constant constant_is_same constant_self (constant_at t) NullC classes class b.same next.same;
  most = most_more classes class b.most most;
}

pub no_classes : (t : Table) → KindsBelow t []
no_classes t = record {
  same = same_none same_constant constant_is_same constant_self (constant_at t) NullC;
  most = λ i. omega arith;
}

pub classes_whole : (t : Table) (classes : List ℕ) → length classes ≡ length t.constants → KindsBelow t classes → AreKinds t classes
classes_whole t classes len b = record {
  same = same_whole same_constant constant_is_same constant_self (constant_at t) NullC classes (λ j ge. constant_none t j (slice_get_past t.constants j (omega arith))) b.same;
}
