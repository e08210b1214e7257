-- What nodes say of indices.
use Rattle.std.specs.Prelude.{ℕ, nat_eq, if◌then◌else◌, Option, Some, None, slice_get}
use Rattle.ir_tree.specs.declared.nodes.TypeNode.{TypeNode}
use Rattle.ir_tree.specs.declared.nodes.TypeNode.TheVariants as node
use Rattle.ir_tree.specs.declared.nodes.ConstantNode.{ConstantNode}
use Rattle.ir_tree.specs.declared.nodes.ConstantNode.TheVariants as constant
use Rattle.ir_text.specs.declared.indices.Wanted.{Wanted}
use Rattle.ir_text.specs.declared.indices.Wanted.TheVariants as wanted

-- the number of a field
abbrev pub node_number : ConstantNode → Option ℕ
node_number (constant.Integer n) = if nat_eq n.width 32 then Some n.bits else None
node_number constant.Zero = Some 0
node_number _ = None

-- the type of a field
abbrev pub node_field : ℕ → TypeNode → Option ℕ
node_field i (node.Struct packed fields) = slice_get fields i
node_field i _ = None

abbrev pub node_name : TypeNode → Option ℕ
node_name (node.Named x) = Some x
node_name _ = None

-- what an index into the type of this number may be
abbrev pub node_wanted : ℕ → TypeNode → Wanted
node_wanted k (node.Array count of) = wanted.Counted (Some of)
node_wanted k (node.Struct packed fields) = wanted.Field k
node_wanted k _ = wanted.Never
