-- The widths of integers at types.
use Rattle.std.proofs.Common.{◌≡◌, ℕ, [], Some, slice_get, refl, sym, ap, ◌∙◌}
use Rattle.ir_tree.specs.declared.nodes.TypeNode.{TypeNode}
use Rattle.ir_tree.specs.declared.nodes.TypeNode.TheVariants as node
use Rattle.ir_tree.specs.Table.{Table}
use Rattle.ir_tree.specs.Trees.{TypeV, PtrV}
use Rattle.ir_tree.specs.Naming.{Grows, name_at, type_at, type_of_node}
use Rattle.ir_tree.proofs.Showing.{meaning_from}
use Rattle.ir_text.specs.Constants.{width_of, node_width}

width_same : (name : ℕ → _) (at : ℕ → TypeV) (n : TypeNode) → node_width n ≡ width_of (type_of_node name at n)
width_same name at (node.Int w) = refl
width_same name at node.Ptr = refl
width_same name at node.Void = refl
width_same name at (node.Array n k) = refl
width_same name at (node.Struct packed ks) = refl
width_same name at (node.Named k) = refl

pub width_later : (t later : Table) (k : ℕ) (n : TypeNode) → slice_get t.types k ≡ Some n → Grows t later → node_width n ≡ width_of (type_at later k)
unfolding type_at
width_later t later k n known grows = width_same _ _ n ∙ ap width_of (sym (meaning_from (type_of_node (name_at later)) PtrV [] later.types k n (grows.types k n known)))
