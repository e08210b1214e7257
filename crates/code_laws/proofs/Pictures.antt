-- The first bytes of globals, by numbers and written out.
use Rattle.std.proofs.Common.{◌≡◌, ℕ, ◌+◌, Bool, true, false, List, [], ◌∷◌, ◌++◌, map, length, refl, sym, ap, ◌∙◌}
use Rattle.std.specs.Prelude.{max}
use Rattle.std.proofs.lemmas.List.{length-map}
use Rattle.pv_base.specs.declared.place.AllocSite.TheVariants as site
use Rattle.ir_tree.specs.declared.items.Global.{Global as Variable}
use Rattle.ir_tree.specs.Trees.{TypeV}
use Rattle.ir_tree.specs.Trees.{ConstantV, IntegerC, NullC, ZeroC, TextC, ArrayC, StructC, NameC, AddressC, ElementsV, NoneC, MoreC}
use Rattle.ir_tree.specs.Naming.{type_at, constant_at}
use Rattle.ir_tree.specs.Shown.{shown_global}
use Rattle.ir_tree.specs.Modules.{Items}
use Rattle.ir_tree.specs.Written.{shown_module}
use Rattle.ir_rules.specs.Numbering.{is_within}
use Rattle.ir_bytes.specs.Initial.{scalar_bytes, padded, aligned_in, bytes_of, array_bytes, struct_bytes, global_objects, first_picture}
use Rattle.mem_image.specs.declared.object.Byte.{Byte}
use Rattle.mem_image.specs.declared.object.Kind.TheVariants as kind
use Rattle.code_laws.specs.Pictured.{field_alignment, constant_bytes, element_bytes, field_bytes, objects_from, module_picture}
use Rattle.code_laws.proofs.Values.{ItemsWithin, items_within, constant_same}

alignment_same : (m : Items) (packed : Bool) (type : TypeV) → aligned_in m packed type ≡ field_alignment (shown_module m) packed type
alignment_same m true type = refl
alignment_same m false type = refl

mutual
  pub bytes_same : (m : Items) → ItemsWithin m → (type : TypeV) (c : ConstantV) → bytes_of m type c ≡ constant_bytes (shown_module m) type c
  bytes_same m within type (IntegerC n) = refl
  bytes_same m within type NullC = refl
  bytes_same m within type ZeroC = refl
  bytes_same m within type (TextC text) = refl
  bytes_same m within type (ArrayC elements) = elements_same m within elements
  bytes_same m within type (StructC packed fields) = fields_same m within packed [] 1 fields
  bytes_same m within type (NameC x) = ap scalar_bytes (constant_same m within type (NameC x))
  bytes_same m within type (AddressC of base indices) = ap scalar_bytes (constant_same m within type (AddressC of base indices))

  elements_same : (m : Items) → ItemsWithin m → (es : ElementsV) → array_bytes m es ≡ element_bytes (shown_module m) es
  elements_same m within NoneC = refl
  elements_same m within (MoreC type value rest) = λ j. bytes_same m within type value j ++ elements_same m within rest j

  fields_same : (m : Items) → ItemsWithin m → (packed : Bool) (so : List Byte) (align : ℕ) (es : ElementsV) → struct_bytes m packed so align es ≡ field_bytes (shown_module m) packed so align es
  fields_same m within packed so align NoneC = refl
  fields_same m within packed so align (MoreC type value rest) =
      fields_same m within packed (padded so (aligned_in m packed type) ++ bytes_of m type value) (max align (aligned_in m packed type)) rest
      ∙ (λ j. field_bytes (shown_module m) packed (padded so (alignment_same m packed type j) ++ bytes_same m within type value j) (max align (alignment_same m packed type j)) rest)

objects_same : (m : Items) → ItemsWithin m → (i : ℕ) (gs : List (Variable ℕ ℕ ℕ)) → global_objects m i gs ≡ objects_from (shown_module m) i (map (shown_global m.names) gs)
objects_same m within i [] = refl
objects_same m within i (g ∷ gs) =
    λ j. record { name = i; site = site.Global i; kind = kind.Global; fixed = g.constant; bytes = bytes_same m within (type_at m.names g.of) (constant_at m.names g.init) j } ∷ objects_same m within (i + 1) gs j

-- the memory in which a module starts is that of the module written out
pub picture_same : (m : Items) → is_within m ≡ true → first_picture m ≡ module_picture (shown_module m)
picture_same m e =
    let within = items_within m e in
    let count : length m.globals ≡ length (map (shown_global m.names) m.globals) = sym (length-map m.globals (shown_global m.names)) in
    λ j. record { objects = objects_same m within 0 m.globals j; next = count j }
