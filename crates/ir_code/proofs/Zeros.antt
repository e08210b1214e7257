-- `zeroinitializer` by a type's number.
use Rattle.std.proofs.Common.{◌≡◌, ℕ, Some, slice_get, refl, sym, ap, ◌∙◌}
use Rattle.pv_base.specs.declared.name.Name.{Name}
use Rattle.ir_tree.specs.declared.nodes.TypeNode.{TypeNode}
use Rattle.ir_tree.specs.declared.nodes.TypeNode.TheVariants as node
use Rattle.ir_tree.specs.Table.{Table, IsTable}
use Rattle.ir_tree.specs.Trees.{TypeV}
use Rattle.ir_tree.specs.Naming.{name_at, type_at, type_of_node}
use Rattle.ir_tree.proofs.Filled.{type_is}
use Rattle.ir_code.specs.Fixed.{zero_of}
use Rattle.ir_code.specs.Walking.{node_zero}

zero_is : (name : ℕ → Name) (at : ℕ → TypeV) (n : TypeNode) → node_zero n ≡ zero_of (type_of_node name at n)
zero_is name at (node.Int w) = refl
zero_is name at node.Ptr = refl
zero_is name at node.Void = refl
zero_is name at (node.Array count of) = refl
zero_is name at (node.Struct packed ks) = refl
zero_is name at (node.Named x) = refl

pub zero_at : (t : Table) (k : ℕ) (n : TypeNode) → IsTable t → slice_get t.types k ≡ Some n → node_zero n ≡ zero_of (type_at t k)
zero_at t k n is known = zero_is (name_at t) (type_at t) n ∙ ap zero_of (sym (type_is t k n is known))
