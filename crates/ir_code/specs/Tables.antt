-- What is found once of a module, by the numbers of its types, constants and functions.
use Rattle.std.specs.Prelude.{ℕ, List, Option, Some, None, option_and_then, unwrap_or, slice_index_or, if◌then◌else◌}
use Rattle.pv_base.specs.declared.name.Name.{Name}
use Rattle.pv_base.specs.declared.name.Name.TheVariants as name
use Rattle.pv_base.specs.declared.external.External.{External}
use Rattle.seq_calls.specs.Names.{known}
use Rattle.ir_tree.specs.declared.nodes.TypeNode.{TypeNode}
use Rattle.ir_tree.specs.declared.nodes.TypeNode.TheVariants as node
use Rattle.ir_tree.specs.declared.items.Function.{Function}
use Rattle.ir_tree.specs.Table.{Table}
use Rattle.ir_tree.specs.Trees.{TypeV, IntV, PtrV}
use Rattle.ir_tree.specs.Naming.{name_at}
use Rattle.ir_code.specs.declared.op.Scalar.{Scalar}
use Rattle.ir_code.specs.declared.op.Scalar.TheVariants as scalar
use Rattle.ir_code.specs.declared.op.Fixed.{Fixed}
use Rattle.ir_code.specs.Fixed.{zero_of}
use Rattle.ir_code.specs.declared.lookups.Constant.{Constant}
use Rattle.ir_code.specs.declared.lookups.Constant.TheVariants as constant
use Rattle.ir_code.specs.declared.lookups.Linkage.{Linkage}
use Rattle.ir_code.specs.declared.lookups.Linkage.TheVariants as linkage

-- `scalars` and `sizes` by the number of a type, `constants` by that of a constant, `functions` and `linkages` by that of a
-- function
pub record Tables : Type 0 where
  pub scalars : List (Option Scalar)
  pub sizes : List (Option ℕ)
  pub constants : List (Option Constant)
  pub functions : List (Option ℕ)
  pub linkages : List Linkage

-- `iN` and `ptr` are the types of registers
abbrev pub scalar_of : TypeNode → Option Scalar
scalar_of (node.Int width) = Some (scalar.Int width)
scalar_of node.Ptr = Some scalar.Pointer
scalar_of node.Void = None
scalar_of (node.Array count of) = None
scalar_of (node.Struct packed fields) = None
scalar_of (node.Named x) = None

-- the type of a number, where a register may have it
abbrev pub scalar_at : Tables → ℕ → Option Scalar
scalar_at t of = slice_index_or t.scalars of None

-- the same, and `ptr` in place of another type, which no register of a checked module has
abbrev pub scalar_or_pointer : Tables → ℕ → Scalar
scalar_or_pointer t of = unwrap_or (scalar_at t of) scalar.Pointer

-- the size in bytes of the type of a number, where it has a layout
abbrev pub size_at : Tables → ℕ → Option ℕ
size_at t of = slice_index_or t.sizes of None

-- the type of a register
abbrev pub type_of : Scalar → TypeV
type_of (scalar.Int width) = IntV width
type_of scalar.Pointer = PtrV

-- a constant at a type
abbrev pub fixed_of : Scalar → Constant → Option Fixed
fixed_of of (constant.Is value) = Some value
fixed_of of constant.Zero = zero_of (type_of of)

-- the constant of a number at a type
abbrev pub fixed_at : Tables → Scalar → ℕ → Option Fixed
fixed_at t of k = option_and_then (fixed_of of) (slice_index_or t.constants k None)

-- the function outside the module of this name
abbrev pub external_named : Name → Option External
external_named (name.Named bytes) = known bytes
external_named (name.Numbered n) = None

abbrev pub linkage_of_external : Option External → Linkage
linkage_of_external None = linkage.Unknown
linkage_of_external (Some e) = linkage.External e

-- a function is defined, or one that the machine knows, or neither
abbrev pub linkage_of : Table → Function ℕ ℕ ℕ → Linkage
linkage_of t f = if f.declared then linkage_of_external (external_named (name_at t f.name)) else linkage.Defined

-- the external of a linkage
abbrev pub external_of : Linkage → Option External
external_of linkage.Defined = None
external_of (linkage.External e) = Some e
external_of linkage.Unknown = None
