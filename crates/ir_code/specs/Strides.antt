-- Addresses as bytes: what each index of `getelementptr` adds, after the LLVM Language Reference.
use Rattle.std.specs.Prelude.{ℕ, nat_eq, if◌then◌else◌, List, [], ◌∷◌, Option, Some, None, option_and_then, option_map}
use Rattle.pv_base.specs.declared.name.Name.{Name}
use Rattle.ir_tree.specs.declared.items.NamedType.{NamedType}
use Rattle.ir_tree.specs.Trees.{TypeV, ArrayV, StructV, TypesV}
use Rattle.ir_tree.specs.Layouts.{layout_of, offset_of, opened, field_type}
use Rattle.int_num.specs.Integer.{Integer}
use Rattle.ir_code.specs.declared.op.Fixed.{Fixed}
use Rattle.ir_code.specs.declared.op.Fixed.TheVariants as fixed
use Rattle.ir_code.specs.declared.op.Operand.{Operand}
use Rattle.ir_code.specs.declared.op.Operand.TheVariants as operand
use Rattle.ir_code.specs.declared.op.Index.{Index}
use Rattle.ir_code.specs.declared.op.Index.TheVariants as index

-- what an index adds, and the type in which the next one goes on
pub record Step : Type 0 where
  pub index : Index
  pub into : TypeV

-- so many elements of a type that has a size
abbrev pub scaled : List (NamedType Name TypeV) → TypeV → Operand → Option Step
scaled types of value = option_map (λ l. record { index = index.Scaled value l.size; into = of }) (layout_of types of)

-- the field that a constant of 32 bits names
abbrev pub integer_index : Integer → Option ℕ
integer_index n = if nat_eq n.width 32 then Some n.bits else None

abbrev pub fixed_index : Fixed → Option ℕ
fixed_index (fixed.Int n) = integer_index n
fixed_index value = None

abbrev pub field_index : Operand → Option ℕ
field_index (operand.Constant value) = fixed_index value
field_index (operand.Register register) = None

-- a field of a struct
abbrev pub field_stride : List (NamedType Name TypeV) → TypeV → TypesV → ℕ → Option Step
field_stride types of fields i = option_and_then (λ o. option_map (λ t. record { index = index.Field o; into = t }) (field_type fields i)) (offset_of types of i)

-- an index goes into the elements of an array or to a field of a struct, and into nothing else
abbrev pub stride_in : List (NamedType Name TypeV) → TypeV → Operand → TypeV → Option Step
stride_in types of value (ArrayV count element) = scaled types element value
stride_in types of value (StructV packed fields) = option_and_then (field_stride types of fields) (field_index value)
stride_in types of value other = None

-- an index into a type, which may be named
abbrev pub stride : List (NamedType Name TypeV) → TypeV → Operand → Option Step
stride types of value = option_and_then (stride_in types of value) (opened types of)

-- the indices behind the first one
abbrev pub inner_strides : List (NamedType Name TypeV) → TypeV → List Operand → Option (List Index)
inner_strides types of [] = Some []
inner_strides types of (value ∷ values) = option_and_then (λ s. option_map (λ rest. s.index ∷ rest) (inner_strides types s.into values)) (stride types of value)

-- the indices of `getelementptr of, ..`: the first counts whole values of the type, each further one goes into it. None where an
-- index has no type to go into, where a size is missing, or where a field is none of the struct
abbrev pub strides : List (NamedType Name TypeV) → TypeV → List Operand → Option (List Index)
strides types of [] = Some []
strides types of (value ∷ values) = option_and_then (λ s. option_map (λ rest. s.index ∷ rest) (inner_strides types s.into values)) (scaled types of value)
