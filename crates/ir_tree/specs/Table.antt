-- Names, types and constants by their numbers.
use Rattle.std.specs.Prelude.{◌≡◌, ◌<◌, ◌≤◌, ◌^◌, ℕ, Bool, false, nat_eq, List, ◌∷◌, [], ◌++◌, All, length, Some, slice_get, if◌then◌else◌}
use Rattle.std.specs.List.{list_any, IsDistinct}
use Rattle.std.specs.Cmp.Lexicographic.{pointwise}
use Rattle.pv_base.specs.declared.name.Name.{Name}
use Rattle.pv_base.specs.declared.name.Name.TheVariants.{Named, Numbered}
use Rattle.ir_tree.specs.declared.nodes.TypeNode.{TypeNode}
use Rattle.ir_tree.specs.declared.nodes.TypeNode.TheVariants as node
use Rattle.ir_tree.specs.declared.nodes.Element.{Element}
use Rattle.ir_tree.specs.declared.nodes.ConstantNode.{ConstantNode}
use Rattle.ir_tree.specs.declared.nodes.ConstantNode.TheVariants as constant

pub record Table : Type 0 where
  pub names : List Name
  pub types : List TypeNode
  pub constants : List ConstantNode

-- the same spelling
abbrev pub same_name : Name → Name → Bool
same_name (Named a) (Named b) = pointwise nat_eq a b
same_name (Numbered a) (Numbered b) = nat_eq a b
same_name a b = false

-- whether the name is one of these
abbrev pub name_among : Name → List Name → Bool
name_among name names = list_any (same_name name) names

-- the names with this one, which stands last where it is new
abbrev pub with_name : List Name → Name → List Name
with_name names name = if name_among name names then names else names ++ name ∷ []

-- what stands in the type of a number has a smaller number, and a name is one of so many
abbrev pub TypeWithin : ℕ → ℕ → TypeNode → Type 0
TypeWithin names k (node.Array n of) = of < k
TypeWithin names k (node.Struct packed fields) = All (λ j. j < k) fields
TypeWithin names k (node.Named name) = name < names
TypeWithin names k n = Unit {0}

-- an element of a constant has one of so many types, and a smaller number than the constant
pub record ElementBefore (types k : ℕ) (e : Element) : Type 0 where
  pub of : e.of < types
  pub value : e.value < k

-- what stands in the constant of a number has a smaller number, and its names and types are of so many
abbrev pub ConstantWithin : ℕ → ℕ → ℕ → ConstantNode → Type 0
ConstantWithin names types k (constant.Array es) = All (ElementBefore types k) es
ConstantWithin names types k (constant.Struct packed es) = All (ElementBefore types k) es
ConstantWithin names types k (constant.Name name) = name < names
ConstantWithin names types k (constant.Address of base es) = (of < types) × (base < k) × All (ElementBefore types k) es
ConstantWithin names types k n = Unit {0}

-- no name has two numbers, types and constants are of smaller ones, and a number has 32 bits
pub record IsTable (t : Table) : Type 0 where
  pub distinct : IsDistinct same_name t.names
  pub types : (k : ℕ) (n : TypeNode) → slice_get t.types k ≡ Some n → TypeWithin (length t.names) k n
  pub count : length t.types ≤ 2 ^ 32
  pub constants : (k : ℕ) (n : ConstantNode) → slice_get t.constants k ≡ Some n → ConstantWithin (length t.names) (length t.types) k n
  pub constant_count : length t.constants ≤ 2 ^ 32
