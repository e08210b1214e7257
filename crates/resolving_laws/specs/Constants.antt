-- Types, constants and addresses as the code of a module has them.
use Rattle.std.specs.Prelude.{ℕ, ℤ, pos, ◌≡◌, ◌⊎◌, List, [], ◌∷◌, Option, Some, None, slice_get}
use Rattle.pv_base.specs.declared.name.Name.{Name}
use Rattle.int_num.specs.Integer.{Integer}
use Rattle.ir_tree.specs.declared.nodes.TypeNode.TheVariants as node
use Rattle.ir_tree.specs.declared.items.NamedType.{NamedType}
use Rattle.ir_tree.specs.declared.items.Global.{Global as Variable}
use Rattle.ir_tree.specs.declared.items.Function.{Function}
use Rattle.ir_tree.specs.declared.layout.Layout.{Layout}
use Rattle.ir_tree.specs.Table.{Table}
use Rattle.ir_tree.specs.Trees.{TypeV, IntV, PtrV, ArrayV, StructV}
use Rattle.ir_tree.specs.Trees.{ConstantV, IntegerC, NullC, ZeroC, TextC, ArrayC, StructC, NameC, AddressC, ElementsV, NoneC, MoreC}
use Rattle.ir_tree.specs.Layouts.{layout_of, offset_of, opened, field_type}
use Rattle.ir_tree.specs.Modules.{Items, types_of}
use Rattle.ir_code.specs.declared.op.Scalar.{Scalar}
use Rattle.ir_code.specs.declared.op.Scalar.TheVariants as scalar
use Rattle.ir_code.specs.declared.op.Fixed.{Fixed}
use Rattle.ir_code.specs.declared.op.Fixed.TheVariants as fixed
use Rattle.ir_code.specs.declared.op.Operand.{Operand}
use Rattle.ir_code.specs.declared.op.Operand.TheVariants as operand
use Rattle.ir_code.specs.declared.op.Index.{Index}
use Rattle.ir_code.specs.declared.op.Index.TheVariants as index
use Rattle.ir_code.specs.Fixed.{total_of, moved}
use Rattle.resolving_laws.specs.Looking.{IsFirst}

-- ---- types

-- the type of a number is this one of a register
abbrev pub IsType : Table → ℕ → Scalar → Type 0
IsType t of (scalar.Int width) = slice_get t.types of ≡ Some (node.Int width)
IsType t of scalar.Pointer = slice_get t.types of ≡ Some node.Ptr

-- the type of a number is that of what a call answers, or none of a register
abbrev pub IsAnswer : Table → ℕ → Option Scalar → Type 0
IsAnswer t of None = (s : Scalar) → IsType t of s → ⊥
IsAnswer t of (Some s) = IsType t of s

-- ---- indices of an address

-- An index into a type, which may be a name of the body. In an array it counts elements, and in a struct it is a constant of 32
-- bits that names a field. What it adds, and the type in which the next index goes on.
abbrev pub IsStep : List (NamedType Name TypeV) → TypeV → TypeV → Operand → Index → TypeV → Type 0
IsStep types of (ArrayV count element) value i into = (l : Layout) × (layout_of types element ≡ Some l) × (i ≡ index.Scaled value l.size) × (into ≡ element)
IsStep types of (StructV packed fields) value i into =
    (n : Integer) × (offset : ℕ) × (value ≡ operand.Constant (fixed.Int n)) × (n.width ≡ 32)
    × (offset_of types of n.bits ≡ Some offset) × (field_type fields n.bits ≡ Some into) × (i ≡ index.Field offset)
IsStep types of body value i into = ⊥

-- the indices behind the first
abbrev pub GoInto : List (NamedType Name TypeV) → TypeV → List Operand → List Index → Type 0
GoInto types of [] [] = Unit {0}
GoInto types of (value ∷ values) (i ∷ is) = (body into : TypeV) × (opened types of ≡ Some body) × IsStep types of body value i into × GoInto types into values is
GoInto types of values is = ⊥

-- the first index counts values of the type
abbrev pub AreSteps : List (NamedType Name TypeV) → TypeV → List Operand → List Index → Type 0
AreSteps types of [] [] = Unit {0}
AreSteps types of (value ∷ values) (i ∷ is) = (l : Layout) × (layout_of types of ≡ Some l) × (i ≡ index.Scaled value l.size) × GoInto types of values is
AreSteps types of values is = ⊥

-- ---- constants

-- `zeroinitializer` of a type of registers
abbrev pub IsZero : TypeV → Fixed → Type 0
IsZero (IntV width) v = v ≡ fixed.Int (record { width = width; bits = 0 })
IsZero PtrV v = v ≡ fixed.Null
IsZero type v = ⊥

-- the global of this name, and where there is none, the function of this name
abbrev pub IsItem : Items → Name → Fixed → Type 0
IsItem m name v =
    ((i : ℕ) × IsFirst (λ g. slice_get m.names.names g.name ≡ Some name) m.globals i × (v ≡ fixed.Global i (pos 0)))
    ⊎ ((i : ℕ) × ((j : ℕ) (g : Variable ℕ ℕ ℕ) → slice_get m.globals j ≡ Some g → slice_get m.names.names g.name ≡ Some name → ⊥)
    × IsFirst (λ (f : Function ℕ ℕ ℕ). slice_get m.names.names f.name ≡ Some name) m.functions i × (v ≡ fixed.Function i))

-- A constant at a type, as a register holds it. An address is its base, moved by the sum of what its indices add.
abbrev mutual
  pub IsConstant : Items → TypeV → ConstantV → Fixed → Type 0
  IsConstant m type (IntegerC n) v = v ≡ fixed.Int n
  IsConstant m type NullC v = v ≡ fixed.Null
  IsConstant m type ZeroC v = IsZero type v
  IsConstant m type (TextC bytes) v = ⊥
  IsConstant m type (ArrayC elements) v = ⊥
  IsConstant m type (StructC packed elements) v = ⊥
  IsConstant m type (NameC name) v = IsItem m name v
  IsConstant m type (AddressC of base indices) v =
      (b : Fixed) × (values : List Operand) × (steps : List Index) × (total : ℤ) × IsConstant m PtrV base b × AreElements m indices values
      × AreSteps (types_of m) of values steps × (total_of (pos 0) steps ≡ Some total) × (moved b total ≡ Some v)

  pub AreElements : Items → ElementsV → List Operand → Type 0
  AreElements m NoneC values = values ≡ []
  AreElements m (MoreC type c rest) values = (v : Fixed) × (others : List Operand) × IsConstant m type c v × AreElements m rest others × (values ≡ operand.Constant v ∷ others)
