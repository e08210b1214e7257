-- Constants, as they are found.
use Rattle.std.specs.Prelude.{Option, Some, option_map}
use Rattle.ir_tree.specs.declared.nodes.ConstantNode.{ConstantNode}
use Rattle.ir_tree.specs.declared.nodes.ConstantNode.TheVariants as node
use Rattle.ir_code.specs.declared.op.Fixed.{Fixed}
use Rattle.ir_code.specs.declared.lookups.Constant.{Constant}
use Rattle.ir_code.specs.declared.lookups.Constant.TheVariants as constant

-- a constant, from what was found for it as a pointer
abbrev pub node_constant : ConstantNode → Option Fixed → Option Constant
node_constant (node.Integer n) found = option_map constant.Is found
node_constant node.Null found = option_map constant.Is found
node_constant node.Zero found = Some constant.Zero
node_constant (node.Text bytes) found = option_map constant.Is found
node_constant (node.Array es) found = option_map constant.Is found
node_constant (node.Struct packed es) found = option_map constant.Is found
node_constant (node.Name k) found = option_map constant.Is found
node_constant (node.Address k base es) found = option_map constant.Is found
