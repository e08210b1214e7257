-- Names, types and constants of a module as its code holds them.
use Rattle.std.specs.Prelude.{ℕ, suc, pos, List, [], ◌∷◌, Bool, false, Option, Some, None, option_map, option_and_then, unwrap_or, if◌then◌else◌}
use Rattle.pv_base.specs.declared.name.Name.{Name}
use Rattle.ir_tree.specs.declared.instruction.Operand.TheVariants as named
use Rattle.ir_tree.specs.Table.{same_name}
use Rattle.ir_tree.specs.Trees.{TypeV, IntV, PtrV, VoidV, ArrayV, StructV, NamedV}
use Rattle.ir_tree.specs.Trees.{ConstantV, IntegerC, NullC, ZeroC, TextC, ArrayC, StructC, NameC, AddressC, ElementsV, NoneC, MoreC}
use Rattle.ir_tree.specs.Layouts.{layout_of}
use Rattle.ir_rules.specs.Seen.{ModuleV, ArgumentV, OperandV}
use Rattle.ir_code.specs.declared.op.Scalar.{Scalar}
use Rattle.ir_code.specs.declared.op.Scalar.TheVariants as scalar
use Rattle.ir_code.specs.declared.op.Fixed.{Fixed}
use Rattle.ir_code.specs.declared.op.Fixed.TheVariants as fixed
use Rattle.ir_code.specs.declared.op.Operand.{Operand}
use Rattle.ir_code.specs.declared.op.Operand.TheVariants as operand
use Rattle.ir_code.specs.Options.{◌>>=◌}
use Rattle.ir_code.specs.Fixed.{first_item, zero_of, total_of, moved}
use Rattle.ir_code.specs.Strides.{strides}
use Rattle.ir_code.specs.Tables.{type_of}

-- an item, which may have no name, has this one
abbrev pub is_called : Name → Option Name → Bool
is_called x None = false
is_called x (Some y) = same_name x y

-- the place of the first item of this name
abbrev pub place_named : List (Option Name) → Name → Option ℕ
place_named [] x = None
place_named (y ∷ ys) x = if is_called x y then Some 0 else option_map suc (place_named ys x)

-- `iN` and `ptr` are the types of registers
abbrev pub scalar_type : TypeV → Option Scalar
scalar_type (IntV width) = Some (scalar.Int width)
scalar_type PtrV = Some scalar.Pointer
scalar_type VoidV = None
scalar_type (ArrayV count of) = None
scalar_type (StructV packed fields) = None
scalar_type (NamedV x) = None

-- the same, and `ptr` in place of another type
abbrev pub scalar_or_ptr : TypeV → Scalar
scalar_or_ptr type = unwrap_or (scalar_type type) scalar.Pointer

module _ (v : ModuleV) where
  -- the size in bytes of a type, where it has a layout
  abbrev pub type_size : TypeV → Option ℕ
  type_size type = option_map (λ l. l.size) (layout_of v.types type)

  -- the global of a name, or else the function of that name: they share one set of names
  abbrev pub item_called : Name → Option Fixed
  item_called x = first_item (λ g. same_name x g.name) (λ i. fixed.Global i (pos 0)) 0 v.globals (first_item (λ f. same_name x f.name) fixed.Function 0 v.functions None)

  -- a constant `getelementptr`, from its base and its indices
  abbrev pub moved_address : TypeV → Option Fixed → Option (List Operand) → Option Fixed
  moved_address type base indices = option_and_then (λ b. option_and_then (λ total. moved b total) (option_and_then (total_of (pos 0)) (option_and_then (strides v.types type) indices))) base

-- a constant at a type, as a register holds it; None for aggregates, for names of no item and for addresses that cannot be found
abbrev mutual
  pub constant_value : ModuleV → TypeV → ConstantV → Option Fixed
  constant_value v type (IntegerC n) = Some (fixed.Int n)
  constant_value v type NullC = Some fixed.Null
  constant_value v type ZeroC = zero_of type
  constant_value v type (TextC bytes) = None
  constant_value v type (ArrayC elements) = None
  constant_value v type (StructC packed elements) = None
  constant_value v type (NameC x) = item_called v x
  constant_value v type (AddressC of base indices) = moved_address v of (constant_value v PtrV base) (index_values v indices)

  pub index_values : ModuleV → ElementsV → Option (List Operand)
  index_values v NoneC = Some []
  index_values v (MoreC type value rest) = option_and_then (λ c. option_map (λ cs. operand.Constant c ∷ cs) (index_values v rest)) (constant_value v type value)

-- over the names of a function's registers
module _ (v : ModuleV) (registers : List (Option Name)) where
  -- an operand of a type
  abbrev pub operand_value : Scalar → OperandV → Option Operand
  operand_value of (named.Register x) = option_map operand.Register (place_named registers x)
  operand_value of (named.Constant c) = option_map operand.Constant (constant_value v (type_of of) c)

  -- an operand that is written with its type
  abbrev pub argument_value : ArgumentV → Option Operand
  argument_value a = do
    of ← scalar_type a.of
    operand_value of a.value
