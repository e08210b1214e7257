-- Size and alignment of types, after the layout rules of the LLVM Language Reference with natural alignment.
use Rattle.std.specs.Prelude.{ℕ, zero, suc, ◌+◌, ◌-◌, ◌*◌, ◌/◌, ◌^◌, max, Bool, true, false, ◌||◌, nat_eq, nat_lt, if◌then◌else◌, List, [], ◌∷◌, length, Option, Some, None, option_map, option_and_then, fold, take, slice_index_or}
use Rattle.pv_base.specs.declared.name.Name.{Name}
use Rattle.ir_tree.specs.declared.layout.Layout.{Layout}
use Rattle.ir_tree.specs.declared.items.NamedType.{NamedType}
use Rattle.ir_tree.specs.Table.{same_name}
use Rattle.ir_tree.specs.Trees.{TypeV, IntV, PtrV, VoidV, ArrayV, StructV, NamedV, TypesV, NoneV, MoreV}

-- a type has fewer than 2^63 bytes
unfoldable pub sized : ℕ → ℕ → Option Layout
sized size align = if nat_lt size (2 ^ 63) then Some (record { size = size; align = align }) else None

-- the next multiple of an alignment
unfoldable pub round_up : ℕ → ℕ → ℕ
round_up at align = (at + (align - 1)) / align * align

-- an integer of 1, 8, 16, 32 or 64 bits stands at a multiple of its bytes, and no other has a layout
abbrev pub int_layout : ℕ → Option Layout
int_layout width =
    if nat_eq width 1 || nat_eq width 8 then Some (record { size = 1; align = 1 })
    else (if nat_eq width 16 then Some (record { size = 2; align = 2 })
    else (if nat_eq width 32 then Some (record { size = 4; align = 4 })
    else (if nat_eq width 64 then Some (record { size = 8; align = 8 }) else None)))

-- the elements of an array follow one another
abbrev pub array_layout : ℕ → Option Layout → Option Layout
array_layout count of = option_and_then (λ l. sized (count * l.size) l.align) of

-- a packed struct aligns no field
abbrev pub field_align : Bool → Layout → ℕ
field_align true l = 1
field_align false l = l.align

-- where a field stands behind what is laid out so far
abbrev pub field_place : Bool → Layout → Layout → ℕ
field_place packed so l = round_up so.size (field_align packed l)

-- what is laid out so far, with one more field
abbrev pub with_field : Bool → Layout → Layout → Option Layout
with_field packed so l = sized (field_place packed so l + l.size) (max so.align (field_align packed l))

-- the same where a layout may be missing
abbrev pub joined : Bool → Option Layout → Option Layout → Option Layout
joined packed so l = option_and_then (λ s. option_and_then (with_field packed s) l) so

-- nothing is laid out yet
abbrev pub no_fields : Option Layout
no_fields = Some (record { size = 0; align = 1 })

-- the end of a struct is padded to its alignment
abbrev pub struct_layout : Bool → List (Option Layout) → Option Layout
struct_layout packed fields = option_and_then (λ so. sized (round_up so.size so.align) so.align) (fold (joined packed) no_fields fields)

-- the layout of a type, from those of the named types in it
abbrev mutual
  pub layout_with : (Name → Option Layout) → TypeV → Option Layout
  layout_with named (IntV width) = int_layout width
  layout_with named PtrV = Some (record { size = 8; align = 8 })
  layout_with named VoidV = None
  layout_with named (ArrayV count of) = array_layout count (layout_with named of)
  layout_with named (StructV packed fields) = struct_layout packed (layouts_with named fields)
  layout_with named (NamedV name) = named name

  pub layouts_with : (Name → Option Layout) → TypesV → List (Option Layout)
  layouts_with named NoneV = []
  layouts_with named (MoreV type rest) = layout_with named type ∷ layouts_with named rest

-- the type of a name
abbrev pub type_named : List (NamedType Name TypeV) → Name → Option TypeV
type_named [] name = None
type_named (t ∷ ts) name = if same_name name t.name then Some t.of else type_named ts name

-- the layout of a named type, where no more than so many names are opened one in another
unfoldable pub named_layout : ℕ → List (NamedType Name TypeV) → Name → Option Layout
named_layout zero types name = None
named_layout (suc n) types name = option_and_then (layout_with (named_layout n types)) (type_named types name)

-- the layout of a type among named types: None where a width is odd, a size too great, a type void, or where a type holds
-- itself, since more names are then opened one in another than there are
abbrev pub layout_of : List (NamedType Name TypeV) → TypeV → Option Layout
layout_of types of = layout_with (named_layout (length types) types) of

-- where the field of an index stands, from the layouts of all fields
abbrev pub place_in : Bool → List (Option Layout) → ℕ → Option ℕ
place_in packed fields i = option_and_then (λ so. option_map (field_place packed so) (slice_index_or fields i None)) (fold (joined packed) no_fields (take i fields))

-- a struct's fields, and whether it is packed
abbrev pub struct_fields : TypeV → Option (Bool × TypesV)
struct_fields (StructV packed fields) = Some (packed, fields)
struct_fields of = None

-- the same of a struct that may be named
abbrev pub fields_of : List (NamedType Name TypeV) → TypeV → Option (Bool × TypesV)
fields_of types (NamedV name) = option_and_then struct_fields (type_named types name)
fields_of types of = struct_fields of

-- the offset in bytes of the field of an index
abbrev pub offset_of : List (NamedType Name TypeV) → TypeV → ℕ → Option ℕ
offset_of types of i = option_and_then (λ f. place_in f.0 (layouts_with (named_layout (length types) types) f.1) i) (fields_of types of)

-- a type, or what it is a name of
abbrev pub opened : List (NamedType Name TypeV) → TypeV → Option TypeV
opened types (NamedV name) = type_named types name
opened types of = Some of

-- the type of the field of an index
abbrev pub field_type : TypesV → ℕ → Option TypeV
field_type NoneV i = None
field_type (MoreV type rest) zero = Some type
field_type (MoreV type rest) (suc i) = field_type rest i
