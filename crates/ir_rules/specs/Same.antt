-- Which types, constants and operands are the same: those that are written alike. A named type is the same as none but itself.
use Rattle.std.specs.Prelude.{Bool, true, false, ◌&&◌, nat_eq}
use Rattle.std.specs.Str.{bytes_eq}
use Rattle.int_num.specs.Integer.{Integer}
use Rattle.ir_tree.specs.declared.instruction.Operand.TheVariants as operand
use Rattle.ir_tree.specs.Table.{same_name}
use Rattle.ir_tree.specs.Trees.{TypeV, IntV, PtrV, VoidV, ArrayV, StructV, NamedV, TypesV, NoneV, MoreV}
use Rattle.ir_tree.specs.Trees.{ConstantV, IntegerC, NullC, ZeroC, TextC, ArrayC, StructC, NameC, AddressC, ElementsV, NoneC, MoreC}
use Rattle.ir_rules.specs.Seen.{OperandV}

abbrev pub same_bool : Bool → Bool → Bool
same_bool true b = b
same_bool false true = false
same_bool false false = true

unfoldable mutual
  pub same_type : TypeV → TypeV → Bool
  same_type (IntV a) (IntV b) = nat_eq a b
  same_type PtrV PtrV = true
  same_type VoidV VoidV = true
  same_type (ArrayV n a) (ArrayV m b) = nat_eq n m && same_type a b
  same_type (StructV p a) (StructV q b) = same_bool p q && same_types a b
  same_type (NamedV a) (NamedV b) = same_name a b
  same_type a b = false

  pub same_types : TypesV → TypesV → Bool
  same_types NoneV NoneV = true
  same_types (MoreV a more) (MoreV b others) = same_type a b && same_types more others
  same_types a b = false

abbrev pub same_integer : Integer → Integer → Bool
same_integer a b = nat_eq a.width b.width && nat_eq a.bits b.bits

unfoldable mutual
  pub same_constant : ConstantV → ConstantV → Bool
  same_constant (IntegerC a) (IntegerC b) = same_integer a b
  same_constant NullC NullC = true
  same_constant ZeroC ZeroC = true
  same_constant (TextC a) (TextC b) = bytes_eq a b
  same_constant (ArrayC a) (ArrayC b) = same_elements a b
  same_constant (StructC p a) (StructC q b) = same_bool p q && same_elements a b
  same_constant (NameC a) (NameC b) = same_name a b
  same_constant (AddressC t a i) (AddressC u b j) = same_type t u && same_constant a b && same_elements i j
  same_constant a b = false

  pub same_elements : ElementsV → ElementsV → Bool
  same_elements NoneC NoneC = true
  same_elements (MoreC t a more) (MoreC u b others) = same_type t u && same_constant a b && same_elements more others
  same_elements a b = false

abbrev pub same_operand : OperandV → OperandV → Bool
same_operand (operand.Register a) (operand.Register b) = same_name a b
same_operand (operand.Constant a) (operand.Constant b) = same_constant a b
same_operand a b = false
