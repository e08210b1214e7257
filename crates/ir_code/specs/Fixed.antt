-- Constants as registers hold them.
use Rattle.std.specs.Prelude.{ℕ, ◌≡◌, ◌<◌, ◌+◌, ◌&&◌, nat_le, Bool, false, if◌then◌else◌, ℤ, pos, List, [], ◌∷◌, length, slice_get, slice_index_or, Option, Some, None, option_and_then, option_map}
use Rattle.std.specs.Int.{w64, int_wrapping_add, int_wrapping_mul, cast_signed}
use Rattle.std.specs.Ordering.{int_eq}
use Rattle.std.specs.Option.{option_map_or}
use Rattle.pv_base.specs.declared.name.Name.{Name}
use Rattle.int_num.specs.Integer.{signed}
use Rattle.ir_tree.specs.Table.{Table, same_name}
use Rattle.ir_tree.specs.Trees.{TypeV, IntV, PtrV}
use Rattle.ir_tree.specs.Trees.{ConstantV, IntegerC, NullC, ZeroC, TextC, ArrayC, StructC, NameC, AddressC, ElementsV, NoneC, MoreC}
use Rattle.ir_tree.specs.Naming.{type_at, constant_at}
use Rattle.ir_tree.specs.Modules.{Items, types_of}
use Rattle.ir_code.specs.Strides.{strides}
use Rattle.ir_code.specs.declared.op.Fixed.{Fixed}
use Rattle.ir_code.specs.declared.op.Fixed.TheVariants as fixed
use Rattle.ir_code.specs.declared.op.Operand.{Operand}
use Rattle.ir_code.specs.declared.op.Operand.TheVariants as operand
use Rattle.ir_code.specs.declared.op.Index.{Index}
use Rattle.ir_code.specs.declared.op.Index.TheVariants as index

-- an item's name is this one
abbrev pub goes_by : Table → Name → ℕ → Bool
goes_by t name k = option_map_or (same_name name) (slice_get t.names k) false

-- the first of the items that passes, by the number that it has where the list begins with that of number i; else another
abbrev pub first_item : {X : Type 0} → (X → Bool) → (ℕ → Fixed) → ℕ → List X → Option Fixed → Option Fixed
first_item is item i [] other = other
first_item is item i (x ∷ xs) other = if is x then Some (item i) else first_item is item (i + 1) xs other

-- the global of a name, or else the function of that name: they share one set of names
abbrev pub item_named : Items → Name → Option Fixed
item_named m name =
    first_item (λ g. goes_by m.names name g.name) (λ i. fixed.Global i (pos 0)) 0 m.globals
    (first_item (λ f. goes_by m.names name f.name) fixed.Function 0 m.functions None)

-- `zeroinitializer` of a register's type
abbrev pub zero_of : TypeV → Option Fixed
zero_of (IntV width) = if nat_le 1 width && nat_le width 64 then Some (fixed.Int (record { width = width; bits = 0 })) else None
zero_of PtrV = Some fixed.Null
zero_of type = None

-- how many bytes an index adds, modulo 2^64 as a signed number
abbrev pub scaled_by : Fixed → ℕ → Option ℤ
scaled_by (fixed.Int n) stride = Some (int_wrapping_mul w64 (signed n) (cast_signed w64 stride))
scaled_by value stride = None

abbrev pub amount : Index → Option ℤ
amount (index.Scaled (operand.Constant value) stride) = scaled_by value stride
amount (index.Scaled (operand.Register register) stride) = None
amount (index.Field offset) = Some (cast_signed w64 offset)

-- the sum of what the indices add to an offset, modulo 2^64 as a signed number
abbrev pub total_of : ℤ → List Index → Option ℤ
total_of at [] = Some at
total_of at (i ∷ is) = option_and_then (λ a. total_of (int_wrapping_add w64 at a) is) (amount i)

-- null and functions stay where nothing is added
abbrev pub stays : Fixed → ℤ → Fixed
stays value total = if int_eq total (pos 0) then value else fixed.Nowhere

-- a constant address, so many bytes further on
abbrev pub moved : Fixed → ℤ → Option Fixed
moved (fixed.Int n) total = None
moved fixed.Null total = Some (stays fixed.Null total)
moved (fixed.Global i offset) total = Some (fixed.Global i (int_wrapping_add w64 offset total))
moved (fixed.Function i) total = Some (stays (fixed.Function i) total)
moved fixed.Nowhere total = Some fixed.Nowhere

-- a constant `getelementptr`, from its base and its indices
abbrev pub address : Items → TypeV → Option Fixed → Option (List Operand) → Option Fixed
address m type base indices = option_and_then (λ b. option_and_then (λ total. moved b total) (option_and_then (total_of (pos 0)) (option_and_then (strides (types_of m) type) indices))) base

-- a constant at a type, as a register holds it; None for aggregates, for names of no item and for addresses that cannot be found
abbrev mutual
  pub fixed_of : Items → TypeV → ConstantV → Option Fixed
  fixed_of m type (IntegerC n) = Some (fixed.Int n)
  fixed_of m type NullC = Some fixed.Null
  fixed_of m type ZeroC = zero_of type
  fixed_of m type (TextC bytes) = None
  fixed_of m type (ArrayC elements) = None
  fixed_of m type (StructC packed elements) = None
  fixed_of m type (NameC name) = item_named m name
  fixed_of m type (AddressC of base indices) = address m of (fixed_of m PtrV base) (operands_of m indices)

  pub operands_of : Items → ElementsV → Option (List Operand)
  operands_of m NoneC = Some []
  operands_of m (MoreC type value rest) = option_and_then (λ v. option_map (λ vs. operand.Constant v ∷ vs) (operands_of m rest)) (fixed_of m type value)

-- the same of the type and the constant of these numbers
abbrev pub fixed_at : Items → ℕ → ℕ → Option Fixed
fixed_at m type k = fixed_of m (type_at m.names type) (constant_at m.names k)

-- what was found once for each constant of a module, taken as pointers
pub record AreFixed (m : Items) (found : List (Option Fixed)) : Type 0 where
  pub len : length found ≡ length m.names.constants
  pub each : (k : ℕ) → k < length m.names.constants → slice_index_or found k None ≡ fixed_of m PtrV (constant_at m.names k)
