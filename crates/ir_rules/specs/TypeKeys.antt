-- Keys of types: a type by its outermost level, with the classes of the types in it.
use Rattle.std.specs.Prelude.{◌≡◌, ◌<◌, ◌≤◌, ◌+◌, ℕ, List, map, length, slice_get, Some}
use Rattle.ir_tree.specs.declared.nodes.TypeNode.{TypeNode}
use Rattle.ir_tree.specs.declared.nodes.TypeNode.TheVariants as node
use Rattle.ir_tree.specs.Table.{Table}
use Rattle.ir_rules.specs.declared.type_keys.TypeKey.{TypeKey}
use Rattle.ir_rules.specs.declared.type_keys.TypeKey.TheVariants as key
use Rattle.ir_rules.specs.Classes.{class_at}

-- the key of a type, from the classes of the types in it
abbrev pub type_key : (ℕ → ℕ) → TypeNode → TypeKey
type_key class (node.Int w) = key.Int w
type_key class node.Ptr = key.Ptr
type_key class node.Void = key.Void
type_key class (node.Array n k) = key.Array n (class k)
type_key class (node.Struct packed ks) = key.Struct packed (map class ks)
type_key class (node.Named k) = key.Named k

-- the first types have the numbers of their keys as classes, and `ptr` has the number 0
pub record Keyed (t : Table) (classes : List ℕ) (keys : List TypeKey) : Type 0 where
  pub each : (j : ℕ) (n : TypeNode) → j < length classes → slice_get t.types j ≡ Some n → slice_get keys (class_at classes j) ≡ Some (type_key (class_at classes) n)
  pub first : slice_get keys 0 ≡ Some key.Ptr
  pub room : length keys ≤ length classes + 1
