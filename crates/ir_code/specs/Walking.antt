-- Constants by number, as they are found one after another.
use Rattle.std.specs.Prelude.{ℕ, ◌≡◌, ◌<◌, nat_eq, List, [], ◌∷◌, length, slice_get, slice_index_or, Option, Some, None, option_and_then, option_map}
use Rattle.ir_tree.specs.declared.nodes.TypeNode.{TypeNode}
use Rattle.ir_tree.specs.declared.nodes.TypeNode.TheVariants as node
use Rattle.ir_tree.specs.declared.nodes.Element.{Element}
use Rattle.ir_tree.specs.declared.nodes.ConstantNode.{ConstantNode}
use Rattle.ir_tree.specs.declared.nodes.ConstantNode.TheVariants as constant
use Rattle.ir_tree.specs.Table.{Table}
use Rattle.ir_tree.specs.Trees.{IntV, PtrV}
use Rattle.ir_tree.specs.Naming.{name_at, type_at, constant_at}
use Rattle.ir_tree.specs.Modules.{Items}
use Rattle.ir_code.specs.declared.op.Fixed.{Fixed}
use Rattle.ir_code.specs.declared.op.Fixed.TheVariants as fixed
use Rattle.ir_code.specs.declared.op.Operand.{Operand}
use Rattle.ir_code.specs.declared.op.Operand.TheVariants as operand
use Rattle.ir_code.specs.Fixed.{first_item, item_named, zero_of, fixed_of, address}

-- `zeroinitializer` of a type's node
abbrev pub node_zero : TypeNode → Option Fixed
node_zero (node.Int width) = zero_of (IntV width)
node_zero node.Ptr = zero_of PtrV
node_zero n = None

-- each item that is put stands under its name, before those that stood there
pub record PutsItems {X : Type 0} (name : X → ℕ) (item : ℕ → Fixed) (i : ℕ) (xs : List X) (old new : List (Option Fixed)) : Type 0 where
  pub len : length new ≡ length old
  pub each : (x : ℕ) → x < length old → slice_index_or new x None ≡ first_item (λ y. nat_eq x (name y)) item i xs (slice_index_or old x None)

-- the items of a module by the numbers of their names
pub record AreNamed (m : Items) (items : List (Option Fixed)) : Type 0 where
  pub len : length items ≡ length m.names.names
  pub each : (x : ℕ) → x < length m.names.names → slice_index_or items x None ≡ item_named m (name_at m.names x)

-- a constant at a type, from what was found for it as a pointer
abbrev pub node_at : Table → List (Option Fixed) → ℕ → ℕ → Option ConstantNode → Option Fixed
node_at t found type k (Some constant.Zero) = zero_of (type_at t type)
node_at t found type k other = slice_index_or found k None

abbrev pub value_at : Table → List (Option Fixed) → ℕ → ℕ → Option Fixed
value_at t found type k = node_at t found type k (slice_get t.constants k)

-- the values of indices
abbrev pub operands_at : Table → List (Option Fixed) → List Element → Option (List Operand)
operands_at t found [] = Some []
operands_at t found (e ∷ es) = option_and_then (λ v. option_map (λ vs. operand.Constant v ∷ vs) (operands_at t found es)) (value_at t found e.of e.value)

abbrev pub address_at : Items → ℕ → Option Fixed → List Operand → Option Fixed
address_at m type base operands = address m (type_at m.names type) base (Some operands)

-- what a constant is as a pointer, from the items by name and what was found for the constants in it
abbrev pub node_fixed : Items → List (Option Fixed) → List (Option Fixed) → ConstantNode → Option Fixed
node_fixed m items found (constant.Integer n) = Some (fixed.Int n)
node_fixed m items found constant.Null = Some fixed.Null
node_fixed m items found constant.Zero = Some fixed.Null
node_fixed m items found (constant.Name x) = slice_index_or items x None
node_fixed m items found (constant.Address type base es) = address m (type_at m.names type) (slice_index_or found base None) (operands_at m.names found es)
node_fixed m items found other = None

-- what was found for the first constants, taken as pointers
pub record AreFixedBelow (m : Items) (found : List (Option Fixed)) : Type 0 where
  pub each : (k : ℕ) → k < length found → slice_index_or found k None ≡ fixed_of m PtrV (constant_at m.names k)
