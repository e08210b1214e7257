-- The first bytes of a module's globals and the memory in which it starts, of its names, types and constants alone.
use Rattle.std.specs.Prelude.{ℕ, ◌+◌, max, Bool, true, false, List, [], ◌∷◌, ◌++◌, length, map}
use Rattle.std.specs.Option.{option_map_or}
use Rattle.pv_base.specs.declared.place.AllocSite.TheVariants as site
use Rattle.ir_tree.specs.Trees.{TypeV}
use Rattle.ir_tree.specs.Trees.{ConstantV, IntegerC, NullC, ZeroC, TextC, ArrayC, StructC, NameC, AddressC, ElementsV, NoneC, MoreC}
use Rattle.ir_tree.specs.Layouts.{layout_of}
use Rattle.ir_rules.specs.Seen.{ModuleV, GlobalV}
use Rattle.ir_bytes.specs.Initial.{zeros, scalar_bytes, padded}
use Rattle.mem_image.specs.declared.object.Byte.{Byte}
use Rattle.mem_image.specs.declared.object.Byte.TheVariants.{Num}
use Rattle.mem_image.specs.declared.object.Kind.TheVariants as kind
use Rattle.mem_image.specs.declared.object.Object.{Object}
use Rattle.mem_image.specs.Picture.{Picture}
use Rattle.code_laws.specs.Meanings.{constant_value}

module _ (v : ModuleV) where
  -- the size of a type, and 0 where it has none
  abbrev pub size_or_none : TypeV → ℕ
  size_or_none type = option_map_or (λ l. l.size) (layout_of v.types type) 0

  -- the alignment of a field, which a packed struct does not align, and 1 where its type has none
  abbrev pub field_alignment : Bool → TypeV → ℕ
  field_alignment true type = 1
  field_alignment false type = option_map_or (λ l. l.align) (layout_of v.types type) 1

-- the bytes of a constant at a type: integers with their low byte first, the elements of an array one behind the other, the
-- fields of a struct each behind the padding that it needs, with padding at the end
abbrev mutual
  pub constant_bytes : ModuleV → TypeV → ConstantV → List Byte
  constant_bytes v type (IntegerC n) = scalar_bytes (constant_value v type (IntegerC n))
  constant_bytes v type NullC = scalar_bytes (constant_value v type NullC)
  constant_bytes v type ZeroC = zeros (size_or_none v type)
  constant_bytes v type (TextC text) = map Num text
  constant_bytes v type (ArrayC elements) = element_bytes v elements
  constant_bytes v type (StructC packed fields) = field_bytes v packed [] 1 fields
  constant_bytes v type (NameC name) = scalar_bytes (constant_value v type (NameC name))
  constant_bytes v type (AddressC of base indices) = scalar_bytes (constant_value v type (AddressC of base indices))

  pub element_bytes : ModuleV → ElementsV → List Byte
  element_bytes v NoneC = []
  element_bytes v (MoreC type value rest) = constant_bytes v type value ++ element_bytes v rest

  -- the fields behind the bytes that the struct has so far, whose greatest alignment so far is known too
  pub field_bytes : ModuleV → Bool → List Byte → ℕ → ElementsV → List Byte
  field_bytes v packed so align NoneC = padded so align
  field_bytes v packed so align (MoreC type value rest) =
      field_bytes v packed (padded so (field_alignment v packed type) ++ constant_bytes v type value) (max align (field_alignment v packed type)) rest

-- the globals from number i on, each under its number with its first bytes
abbrev pub objects_from : ModuleV → ℕ → List GlobalV → List Object
objects_from v i [] = []
objects_from v i (g ∷ gs) = record { name = i; site = site.Global i; kind = kind.Global; fixed = g.constant; bytes = constant_bytes v g.of g.init } ∷ objects_from v (i + 1) gs

-- the memory in which a program starts: its globals, and their count as the next name
abbrev pub module_picture : ModuleV → Picture
module_picture v = record { objects = objects_from v 0 v.globals; next = length v.globals }
