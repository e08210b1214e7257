-- What is found by number is what is defined.
use Rattle.std.proofs.Common.{◌≡◌, ℕ, zero, suc, ◌<◌, List, [], ◌∷◌, length, slice_get, Option, Some, None, refl, sym, ◌∙◌, ap, arith}
use Rattle.std.specs.Prelude.{option_map, slice_index_or}
use Rattle.ir_tree.specs.declared.nodes.ConstantNode.{ConstantNode}
use Rattle.ir_tree.specs.declared.nodes.ConstantNode.TheVariants as node
use Rattle.ir_tree.specs.Table.{IsTable}
use Rattle.ir_tree.specs.Trees.{PtrV}
use Rattle.ir_tree.specs.Naming.{name_at, type_at, constant_at, constant_of_node}
use Rattle.ir_tree.specs.Modules.{Items}
use Rattle.ir_code.specs.declared.op.Fixed.{Fixed}
use Rattle.ir_code.specs.declared.lookups.Constant.TheVariants as constant
use Rattle.ir_code.specs.Fixed.{fixed_of, AreFixed}
use Rattle.ir_code.specs.Coding.{constant_of, constant_in}
use Rattle.ir_code.specs.Found.{node_constant}
use Rattle.ir_code.proofs.Values.{constant_is}

-- past the end a look-up gives the other value
pub past_end : {X : Type 0} (xs : List X) (k : ℕ) (d : X) → None ≡ slice_get xs k → slice_index_or xs k d ≡ d
past_end [] k d e = refl
past_end (x ∷ xs) zero d e = absurd cc
past_end (x ∷ xs) (suc k) d e = past_end xs k d e

-- and none is past the end within
pub not_past : {X : Type 0} (xs : List X) (k : ℕ) → k < length xs → None ≡ slice_get xs k → ⊥
not_past [] k lt e = absurd (omega arith)
not_past (x ∷ xs) zero lt e = absurd cc
not_past (x ∷ xs) (suc k) lt e = not_past xs k (omega arith) e

by_node : (m : Items) (n : ConstantNode) (found : Option Fixed) → found ≡ fixed_of m PtrV (constant_of_node (name_at m.names) (type_at m.names) (constant_at m.names) n)
    → node_constant n found ≡ constant_of m (constant_of_node (name_at m.names) (type_at m.names) (constant_at m.names) n)
by_node m (node.Integer n) found e = ap (option_map constant.Is) e
by_node m node.Null found e = ap (option_map constant.Is) e
by_node m node.Zero found e = refl
by_node m (node.Text bytes) found e = ap (option_map constant.Is) e
by_node m (node.Array es) found e = ap (option_map constant.Is) e
by_node m (node.Struct packed es) found e = ap (option_map constant.Is) e
by_node m (node.Name k) found e = ap (option_map constant.Is) e
by_node m (node.Address k base es) found e = ap (option_map constant.Is) e

pub constant_right : (m : Items) (k : ℕ) (n : ConstantNode) (all : List (Option Fixed)) (found : Option Fixed) → IsTable m.names → AreFixed m all → k < length m.names.constants → Some n ≡ slice_get m.names.constants k
    → found ≡ slice_index_or all k None → node_constant n found ≡ constant_in m k
constant_right m k n all found table are lt some e =
    let is : constant_at m.names k ≡ constant_of_node (name_at m.names) (type_at m.names) (constant_at m.names) n = constant_is m.names k n table (sym some) in
    by_node m n found (e ∙ are.each k lt ∙ ap (fixed_of m PtrV) is) ∙ ap (constant_of m) (sym is)
