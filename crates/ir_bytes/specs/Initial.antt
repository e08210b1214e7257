-- The first bytes of globals, and the memory in which a program starts.
use Rattle.std.specs.Prelude.{ℕ, ◌≤◌, ◌+◌, ◌-◌, ◌%◌, max, Bool, true, false, List, [], ◌∷◌, ◌++◌, length, map, replicate, Option}
use Rattle.std.specs.Option.{option_map_or}
use Rattle.pv_base.specs.declared.place.AllocSite.TheVariants as site
use Rattle.ir_tree.specs.declared.items.Global.{Global as Variable}
use Rattle.ir_tree.specs.Trees.{TypeV}
use Rattle.ir_tree.specs.Trees.{ConstantV, IntegerC, NullC, ZeroC, TextC, ArrayC, StructC, NameC, AddressC, ElementsV, NoneC, MoreC}
use Rattle.ir_tree.specs.Layouts.{int_layout, layout_of}
use Rattle.ir_tree.specs.Naming.{type_at, constant_at}
use Rattle.ir_tree.specs.Modules.{Items, types_of}
use Rattle.ir_code.specs.declared.op.Fixed.{Fixed}
use Rattle.ir_code.specs.declared.op.Fixed.TheVariants as fixed
use Rattle.ir_code.specs.Fixed.{fixed_of}
use Rattle.mem_image.specs.declared.object.Pointer.TheVariants.{Obj, Fun}
use Rattle.mem_image.specs.declared.object.Byte.{Byte}
use Rattle.mem_image.specs.declared.object.Byte.TheVariants.{Num}
use Rattle.mem_image.specs.declared.object.Kind.TheVariants as kind
use Rattle.mem_image.specs.declared.object.Object.{Object}
use Rattle.pv_base.specs.Limits.{live_limit}
pub use Rattle.mem_image.specs.Bytes.{number_bytes as low_bytes, pointer_bytes}
use Rattle.mem_image.specs.Picture.{Picture, live, name_limit}

abbrev pub zeros : ℕ → List Byte
zeros n = replicate n (Num 0)

-- how many bytes an integer of a width takes
abbrev pub byte_count : ℕ → ℕ
byte_count width = option_map_or (λ l. l.size) (int_layout width) 0

-- the bytes of what a register may hold; an address that leaves null or a function has those of null
abbrev pub fixed_bytes : Fixed → List Byte
fixed_bytes (fixed.Int n) = low_bytes (byte_count n.width) n.bits
fixed_bytes fixed.Null = zeros 8
fixed_bytes (fixed.Global i offset) = pointer_bytes (Obj i offset)
fixed_bytes (fixed.Function i) = pointer_bytes (Fun i)
fixed_bytes fixed.Nowhere = zeros 8

abbrev pub scalar_bytes : Option Fixed → List Byte
scalar_bytes value = option_map_or fixed_bytes value []

-- the size of a type, and 0 where it has none
abbrev pub size_in : Items → TypeV → ℕ
size_in m type = option_map_or (λ l. l.size) (layout_of (types_of m) type) 0

-- the alignment of a type, and 1 where it has none
abbrev pub align_in : Items → TypeV → ℕ
align_in m type = option_map_or (λ l. l.align) (layout_of (types_of m) type) 1

-- a packed struct aligns no field
abbrev pub aligned_in : Items → Bool → TypeV → ℕ
aligned_in m true type = 1
aligned_in m false type = align_in m type

-- how many bytes are missing up to a multiple of an alignment
abbrev pub gap : ℕ → ℕ → ℕ
gap n align = (align - n % align) % align

-- bytes, and zeros up to a multiple of an alignment
abbrev pub padded : List Byte → ℕ → List Byte
padded bytes align = bytes ++ zeros (gap (length bytes) align)

-- the bytes of a constant at a type: integers with their low byte first, the elements of an array one behind the other, the
-- fields of a struct each behind the padding that it needs, with padding at the end
abbrev mutual
  pub bytes_of : Items → TypeV → ConstantV → List Byte
  bytes_of m type (IntegerC n) = scalar_bytes (fixed_of m type (IntegerC n))
  bytes_of m type NullC = scalar_bytes (fixed_of m type NullC)
  bytes_of m type ZeroC = zeros (size_in m type)
  bytes_of m type (TextC text) = map Num text
  bytes_of m type (ArrayC elements) = array_bytes m elements
  bytes_of m type (StructC packed fields) = struct_bytes m packed [] 1 fields
  bytes_of m type (NameC name) = scalar_bytes (fixed_of m type (NameC name))
  bytes_of m type (AddressC of base indices) = scalar_bytes (fixed_of m type (AddressC of base indices))

  pub array_bytes : Items → ElementsV → List Byte
  array_bytes m NoneC = []
  array_bytes m (MoreC type value rest) = bytes_of m type value ++ array_bytes m rest

  -- the fields behind the bytes that the struct has so far, whose greatest alignment so far is known too
  pub struct_bytes : Items → Bool → List Byte → ℕ → ElementsV → List Byte
  struct_bytes m packed so align NoneC = padded so align
  struct_bytes m packed so align (MoreC type value rest) = struct_bytes m packed (padded so (aligned_in m packed type) ++ bytes_of m type value) (max align (aligned_in m packed type)) rest

-- the first bytes of a constant at a type, by their numbers
abbrev pub bytes_at : Items → ℕ → ℕ → List Byte
bytes_at m type k = bytes_of m (type_at m.names type) (constant_at m.names k)

-- a global under its number, with its first bytes
abbrev pub global_object : Items → ℕ → Variable ℕ ℕ ℕ → Object
global_object m i g = record { name = i; site = site.Global i; kind = kind.Global; fixed = g.constant; bytes = bytes_at m g.of g.init }

-- the globals from number i on
abbrev pub global_objects : Items → ℕ → List (Variable ℕ ℕ ℕ) → List Object
global_objects m i [] = []
global_objects m i (g ∷ gs) = global_object m i g ∷ global_objects m (i + 1) gs

-- the memory in which a program starts: its globals, and their count as the next name
abbrev pub first_picture : Items → Picture
first_picture m = record { objects = global_objects m 0 m.globals; next = length m.globals }

-- the globals are no more than a memory holds
pub record GlobalsFit (m : Items) : Type 0 where
  pub live : live (global_objects m 0 m.globals) ≤ live_limit
  pub names : length m.globals ≤ name_limit
