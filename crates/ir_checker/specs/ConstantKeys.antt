-- Keys of constants: a constant by its outermost level, with the classes of the types and constants in it.
use Rattle.std.specs.Prelude.{◌≡◌, ◌<◌, ◌≤◌, ◌+◌, ℕ, List, map, length, slice_get, Some}
use Rattle.ir_tree.specs.declared.nodes.ConstantNode.{ConstantNode}
use Rattle.ir_tree.specs.declared.nodes.ConstantNode.TheVariants as node
use Rattle.ir_tree.specs.declared.nodes.Element.{Element}
use Rattle.ir_tree.specs.Table.{Table}
use Rattle.ir_rules.specs.Classes.{class_at}
use Rattle.ir_checker.specs.declared.constant_keys.ConstantKey.{ConstantKey}
use Rattle.ir_checker.specs.declared.constant_keys.ConstantKey.TheVariants as key
use Rattle.ir_checker.specs.declared.constant_keys.ElementsKey.{ElementsKey}

-- the key of elements, from the classes of their types and of the constants
abbrev pub elements_key : (ℕ → ℕ) → (ℕ → ℕ) → List Element → ElementsKey
elements_key class kind es = record { types = map (λ e. class e.of) es; values = map (λ e. kind e.value) es }

-- the key of a constant, from the classes of the types and constants in it
abbrev pub constant_key : (ℕ → ℕ) → (ℕ → ℕ) → ConstantNode → ConstantKey
constant_key class kind (node.Integer n) = key.Integer n.width n.bits
constant_key class kind node.Null = key.Null
constant_key class kind node.Zero = key.Zero
constant_key class kind (node.Text bytes) = key.Text bytes
constant_key class kind (node.Array es) = key.Array (elements_key class kind es)
constant_key class kind (node.Struct packed es) = key.Struct packed (elements_key class kind es)
constant_key class kind (node.Name k) = key.Name k
constant_key class kind (node.Address of base es) = key.Address (class of) (kind base) (elements_key class kind es)

-- the first constants have the numbers of their keys as classes, and `null` has the number 0
pub record Keyed (t : Table) (classes kinds : List ℕ) (keys : List ConstantKey) : Type 0 where
  pub each : (j : ℕ) (n : ConstantNode) → j < length kinds → slice_get t.constants j ≡ Some n → slice_get keys (class_at kinds j) ≡ Some (constant_key (class_at classes) (class_at kinds) n)
  pub first : slice_get keys 0 ≡ Some key.Null
  pub room : length keys ≤ length kinds + 1
