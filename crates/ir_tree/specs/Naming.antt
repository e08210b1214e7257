-- What the numbers of a table stand for, as more is added to it.
use Rattle.std.specs.Prelude.{◌≡◌, ◌<◌, length, ℕ, List, [], ◌∷◌, ◌++◌, Some, slice_get, slice_index_or, map, All}
use Rattle.pv_base.specs.declared.name.Name.{Name}
use Rattle.pv_base.specs.declared.name.Name.TheVariants.{Numbered}
use Rattle.ir_tree.specs.declared.nodes.TypeNode.{TypeNode}
use Rattle.ir_tree.specs.declared.nodes.TypeNode.TheVariants as node
use Rattle.ir_tree.specs.declared.nodes.Element.{Element}
use Rattle.ir_tree.specs.declared.nodes.ConstantNode.{ConstantNode}
use Rattle.ir_tree.specs.declared.nodes.ConstantNode.TheVariants as constant
use Rattle.ir_tree.specs.Table.{Table}
use Rattle.ir_tree.specs.Trees.{TypeV, IntV, PtrV, VoidV, ArrayV, StructV, NamedV, TypesV, NoneV, MoreV}
use Rattle.ir_tree.specs.Trees.{ConstantV, IntegerC, NullC, ZeroC, TextC, ArrayC, StructC, NameC, AddressC, ElementsV, NoneC, MoreC}

-- what the nodes of a flat list stand for, behind those before them: each from what stands before it
unfoldable pub meanings : {N V : Type 0} → ((ℕ → V) → N → V) → V → List V → List N → List V
meanings step none before [] = []
meanings step none before (n ∷ ns) =
    let first = step (λ k. slice_index_or before k none) n in
    first ∷ meanings step none (before ++ first ∷ []) ns

abbrev pub name_at : Table → ℕ → Name
name_at t k = slice_index_or t.names k (Numbered 0)

abbrev pub listed : List TypeV → TypesV
listed [] = NoneV
listed (t ∷ ts) = MoreV t (listed ts)

abbrev pub types_by : (ℕ → TypeV) → List ℕ → TypesV
types_by at ks = listed (map at ks)

-- a type, from the names and the types before it
abbrev pub type_of_node : (ℕ → Name) → (ℕ → TypeV) → TypeNode → TypeV
type_of_node name at (node.Int w) = IntV w
type_of_node name at node.Ptr = PtrV
type_of_node name at node.Void = VoidV
type_of_node name at (node.Array n k) = ArrayV n (at k)
type_of_node name at (node.Struct packed ks) = StructV packed (types_by at ks)
type_of_node name at (node.Named k) = NamedV (name k)

-- the type of a number
unfoldable pub type_at : Table → ℕ → TypeV
type_at t k = slice_index_or (meanings (type_of_node (name_at t)) PtrV [] t.types) k PtrV

abbrev pub types_at : Table → List ℕ → TypesV
types_at t ks = types_by (type_at t) ks

abbrev pub elements_by : (ℕ → TypeV) → (ℕ → ConstantV) → List Element → ElementsV
elements_by type at [] = NoneC
elements_by type at (e ∷ es) = MoreC (type e.of) (at e.value) (elements_by type at es)

-- a constant, from the names, the types and the constants before it
abbrev pub constant_of_node : (ℕ → Name) → (ℕ → TypeV) → (ℕ → ConstantV) → ConstantNode → ConstantV
constant_of_node name type at (constant.Integer n) = IntegerC n
constant_of_node name type at constant.Null = NullC
constant_of_node name type at constant.Zero = ZeroC
constant_of_node name type at (constant.Text bytes) = TextC bytes
constant_of_node name type at (constant.Array es) = ArrayC (elements_by type at es)
constant_of_node name type at (constant.Struct packed es) = StructC packed (elements_by type at es)
constant_of_node name type at (constant.Name k) = NameC (name k)
constant_of_node name type at (constant.Address k base es) = AddressC (type k) (at base) (elements_by type at es)

-- the constant of a number
unfoldable pub constant_at : Table → ℕ → ConstantV
constant_at t k = slice_index_or (meanings (constant_of_node (name_at t) (type_at t)) NullC [] t.constants) k NullC

abbrev pub elements_at : Table → List Element → ElementsV
elements_at t es = elements_by (type_at t) (constant_at t) es

-- each number keeps what it stands for
pub record Grows (old new : Table) : Type 0 where
  pub names : (k : ℕ) (x : Name) → slice_get old.names k ≡ Some x → slice_get new.names k ≡ Some x
  pub types : (k : ℕ) (x : TypeNode) → slice_get old.types k ≡ Some x → slice_get new.types k ≡ Some x
  pub constants : (k : ℕ) (x : ConstantNode) → slice_get old.constants k ≡ Some x → slice_get new.constants k ≡ Some x

-- the number stands for the type, from this table on
pub record Shows (table : Table) (k : ℕ) (type : Table → TypeV) : Type 0 where
  pub within : k < length table.types
  pub from : (later : Table) → Grows table later → type_at later k ≡ type later

-- the number stands for the constant, from this table on
pub record ShowsConstant (table : Table) (k : ℕ) (value : Table → ConstantV) : Type 0 where
  pub within : k < length table.constants
  pub from : (later : Table) → Grows table later → constant_at later k ≡ value later

-- the elements have numbers of the table
pub record ElementWithin (table : Table) (e : Element) : Type 0 where
  pub of : e.of < length table.types
  pub value : e.value < length table.constants

abbrev pub ElementsWithin : Table → List Element → Type 0
ElementsWithin table es = All (ElementWithin table) es
