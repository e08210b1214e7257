-- Constants at their types, after the LLVM Language Reference, "Constants".
use Rattle.std.specs.Prelude.{ℕ, suc, Bool, true, false, ◌&&◌, nat_eq, List, [], ◌∷◌, length, Option, Some, None, if◌then◌else◌}
use Rattle.ir_tree.specs.Trees.{TypeV, IntV, PtrV, ArrayV, TypesV, NoneV, MoreV}
use Rattle.ir_tree.specs.Trees.{ConstantV, IntegerC, NullC, ZeroC, TextC, ArrayC, StructC, NameC, AddressC, ElementsV, NoneC, MoreC}
use Rattle.ir_tree.specs.Layouts.{fields_of}
use Rattle.ir_rules.specs.Seen.{ModuleV}
use Rattle.ir_rules.specs.Same.{same_bool, same_type, same_types}
use Rattle.ir_rules.specs.Defining.{is_global}
use Rattle.ir_rules.specs.Indexing.{path, agrees}

abbrev pub is_pointer : TypeV → Bool
is_pointer PtrV = true
is_pointer type = false

abbrev pub is_integer : TypeV → Bool
is_integer (IntV w) = true
is_integer type = false

abbrev pub has_width : ℕ → TypeV → Bool
has_width w (IntV v) = nat_eq v w
has_width w type = false

-- each global or function that a constant names is one of the module
unfoldable mutual
  pub names_known : ModuleV → ConstantV → Bool
  names_known m (NameC name) = is_global m name
  names_known m (ArrayC elements) = all_known m elements
  names_known m (StructC packed elements) = all_known m elements
  names_known m (AddressC of base indices) = names_known m base && all_known m indices
  names_known m c = true

  pub all_known : ModuleV → ElementsV → Bool
  all_known m NoneC = true
  all_known m (MoreC type c rest) = names_known m c && all_known m rest

-- the types that are written before the elements
unfoldable pub written_types : ElementsV → TypesV
written_types NoneC = NoneV
written_types (MoreC type c rest) = MoreV type (written_types rest)

-- how many types
unfoldable pub type_count : TypesV → ℕ
type_count NoneV = 0
type_count (MoreV type rest) = suc (type_count rest)

-- each is this type
unfoldable pub are_all : TypeV → TypesV → Bool
are_all type NoneV = true
are_all type (MoreV t rest) = same_type type t && are_all type rest

abbrev pub elements_fit : TypeV → TypesV → Bool
elements_fit (ArrayV n type) written = nat_eq n (type_count written) && are_all type written
elements_fit type written = false

abbrev pub text_fits : ℕ → TypeV → Bool
text_fits bytes (ArrayV n type) = nat_eq n bytes && has_width 8 type
text_fits bytes type = false

abbrev pub fields_fit : Bool → Option (Bool × TypesV) → TypesV → Bool
fields_fit packed None written = false
fields_fit packed (Some fields) written = same_bool packed fields.0 && same_types fields.1 written

-- a constant is one of a type, but for what stands in it; `zeroinitializer` is one of every type
abbrev pub has_form : ModuleV → TypeV → ConstantV → Bool
has_form m type (IntegerC n) = has_width n.width type
has_form m type NullC = is_pointer type
has_form m type ZeroC = true
has_form m type (TextC bytes) = text_fits (length bytes) type
has_form m type (ArrayC elements) = elements_fit type (written_types elements)
has_form m type (StructC packed elements) = fields_fit packed (fields_of m.types type) (written_types elements)
has_form m type (NameC name) = is_pointer type
has_form m type (AddressC of base indices) = is_pointer type

-- the number that a constant integer is, `zeroinitializer` among them
abbrev pub constant_bits : ConstantV → Option ℕ
constant_bits (IntegerC n) = Some n.bits
constant_bits ZeroC = Some 0
constant_bits c = None

-- the number of an index into a struct, which is a constant `i32`
abbrev pub constant_index : TypeV → ConstantV → Option ℕ
constant_index type c = if has_width 32 type then constant_bits c else None

unfoldable pub indices_of : ElementsV → List (Option ℕ)
indices_of NoneC = []
indices_of (MoreC type c rest) = constant_index type c ∷ indices_of rest

unfoldable pub all_integers : TypesV → Bool
all_integers NoneV = true
all_integers (MoreV type rest) = is_integer type && all_integers rest

-- what stands in a constant is of the types that are written before it, and an address has indices into what it names
unfoldable mutual
  pub holds_together : ModuleV → ConstantV → Bool
  holds_together m (ArrayC elements) = all_together m elements
  holds_together m (StructC packed elements) = all_together m elements
  holds_together m (AddressC of base indices) =
      has_form m PtrV base && holds_together m base && all_integers (written_types indices) && all_together m indices && agrees (path m.types of (indices_of indices))
  holds_together m c = true

  pub all_together : ModuleV → ElementsV → Bool
  all_together m NoneC = true
  all_together m (MoreC type c rest) = has_form m type c && holds_together m c && all_together m rest

-- a constant is one of a type
abbrev pub is_of : ModuleV → TypeV → ConstantV → Bool
is_of m type c = has_form m type c && holds_together m c
