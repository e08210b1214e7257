-- What is open, and how a constant inside goes on in it.
use Rattle.std.specs.Prelude.{◌≡◌, ℕ, ◌<◌, List, [], ◌∷◌, ◌++◌, length, map, Option, IfSome, option_map, Result, Ok, Err}
use Rattle.int_num.specs.Integer.{IsWidth}
use Rattle.ir_tree.specs.declared.nodes.Element.{Element}
use Rattle.ir_tree.specs.Table.{Table}
use Rattle.ir_tree.specs.Trees.{TypeV, StructV, TypesV, NoneV, ConstantV, AddressC}
use Rattle.ir_tree.specs.Naming as naming
use Rattle.ir_text.specs.declared.fault.ReadEnd.{ReadEnd}
use Rattle.ir_text.specs.declared.indices.Wanted.{Wanted}
use Rattle.ir_text.specs.declared.indices.Wanted.TheVariants as wanted
use Rattle.ir_text.specs.declared.nested_constants.Bracket.{Bracket}
use Rattle.ir_text.specs.declared.nested_constants.Address.{Address}
use Rattle.ir_text.specs.declared.nested_constants.OpenConstant.{OpenConstant}
use Rattle.ir_text.specs.declared.nested_constants.OpenConstant.TheVariants as waiting
use Rattle.ir_text.specs.declared.nested_constants.Reached.{Reached}
use Rattle.ir_text.specs.declared.nested_constants.Reached.TheVariants.{Done, Opened, Going}
use Rattle.ir_text.specs.Tokens.{TokenV, is_mark}
use Rattle.ir_text.specs.Reading.{Outcome, Reader, ◌>>=◌, Fails}
use Rattle.ir_text.specs.Leaves.{mark_at}
use Rattle.ir_text.specs.Repeated.{repeated}
use Rattle.ir_text.specs.Lists.{after_comma}
use Rattle.ir_text.specs.Types.{Known}
use Rattle.ir_text.specs.Indices.{Entry, Counted, Field, Never, led_to}
use Rattle.ir_text.specs.NestedConstants.{Typed, elements_of, closing_mark, bracket_end, element_at, counted_at, field_at, indices_end, base_end, constant_at}

abbrev pub shown_element : Table → Element → Typed
shown_element table e = (naming.type_at table e.of, naming.constant_at table e.value)

-- the end of an address behind its indices
abbrev pub address_close : TypeV → ConstantV → List Typed → Reader ConstantV
address_close of base all ts = mark_at 41 ts >>= λ close. Ok (AddressC of base (elements_of all), close.1)

module _ (known : Known) where
  abbrev pub element : Reader Typed
  element ts = element_at known (constant_at known) ts

  -- the other elements behind one
  abbrev pub elements_behind : Reader (List Typed)
  elements_behind ts = repeated (is_mark 44) (after_comma element) ts

  -- the end of the elements
  abbrev pub brackets : Bracket → List Typed → Reader ConstantV
  brackets kind all ts = mark_at (closing_mark kind) ts >>= λ close. bracket_end kind (elements_of all) close.1

  -- behind an element that follows these
  unfoldable pub elements_end : Bracket → List Typed → TypeV → ConstantV × List TokenV → Outcome ConstantV
  elements_end kind front of x = elements_behind x.1 >>= λ others. brackets kind (front ++ (of, x.0) ∷ others.0) others.1

  -- an element that follows these, and the others
  abbrev pub elements_from : Bracket → List Typed → Reader ConstantV
  elements_from kind front ts = element ts >>= λ first. elements_behind first.1 >>= λ others. brackets kind (front ++ first.0 ∷ others.0) others.1

  -- the end of an address
  abbrev pub address_end : TypeV → ConstantV → List Typed → Option TypeV → Reader ConstantV
  address_end of base front into ts = indices_end known (constant_at known) of base front into ts

  -- an index of any width, and the others
  abbrev pub counted_end : TypeV → ConstantV → List Typed → Option TypeV → Reader ConstantV
  counted_end of base front next ts = counted_at known (constant_at known) ts >>= λ e. address_end of base (front ++ e.0 ∷ []) next e.1

  -- an index that names a field, and the others
  abbrev pub field_end : TypeV → ConstantV → List Typed → TypesV → Reader ConstantV
  field_end of base front fields ts = field_at fields ts >>= λ e. address_end of base (front ++ e.0 ∷ []) (led_to (Field fields) e.0.1) e.1

  -- behind an index that follows these
  unfoldable pub index_end : TypeV → ConstantV → List Typed → TypeV → Option TypeV → ConstantV × List TokenV → Outcome ConstantV
  index_end of base front type into x = address_end of base (front ++ (type, x.0) ∷ []) into x.1

  module _ (table : Table) where
    -- what is open, behind the constant that it waited for
    abbrev pub closing : OpenConstant → ConstantV × List TokenV → Outcome ConstantV
    closing (waiting.Base of) = base_end known (constant_at known) (naming.type_at table of)
    closing (waiting.Index a of into) = index_end (naming.type_at table a.of) (naming.constant_at table a.base) (map (shown_element table) a.indices) (naming.type_at table of) (option_map (naming.type_at table) into)
    closing (waiting.Elements kind es of) = elements_end kind (map (shown_element table) es) (naming.type_at table of)

    -- the innermost stands last
    abbrev pub resume : List OpenConstant → Outcome ConstantV → Outcome ConstantV
    resume [] read = read
    resume (o ∷ os) read = resume os read >>= closing o

    abbrev pub begun : List TokenV → Reached → Outcome ConstantV
    begun ts (Done k) = Ok (naming.constant_at table k, ts)
    begun ts (Opened o w) = constant_at known w ts >>= closing o
    begun ts (Going a into) = address_end (naming.type_at table a.of) (naming.constant_at table a.base) (map (shown_element table) a.indices) (option_map (naming.type_at table) into) ts

    -- a step leads from one reading to the same
    abbrev pub Steps : List TokenV → Result Reached ReadEnd → Outcome ConstantV → Type 0
    Steps ts (Ok r) read = read ≡ begun ts r
    Steps ts (Err e) read = Fails e read

-- the numbers of an address are of a table
pub record AddressWithin (t : Table) (a : Address) : Type 0 where
  pub of : a.of < length t.types
  pub base : a.base < length t.constants
  pub indices : naming.ElementsWithin t a.indices

abbrev pub TypeWithin : Table → Option ℕ → Type 0
TypeWithin t into = IfSome into (λ k. k < length t.types)

-- the numbers that are open are of a table
abbrev pub OpenWithin : Table → OpenConstant → Type 0
OpenWithin t (waiting.Base of) = of < length t.types
OpenWithin t (waiting.Index a of into) = AddressWithin t a × (of < length t.types) × TypeWithin t into
OpenWithin t (waiting.Elements kind es of) = naming.ElementsWithin t es × (of < length t.types)

abbrev pub ReachedWithin : Table → Reached → Type 0
ReachedWithin t (Done k) = k < length t.constants
ReachedWithin t (Opened o w) = OpenWithin t o × IsWidth w
ReachedWithin t (Going a into) = AddressWithin t a × TypeWithin t into

-- ---- entries by number

abbrev pub fields_of : TypeV → TypesV
fields_of (StructV packed fields) = fields
fields_of other = NoneV

-- what an index may be, of a table
abbrev pub shown_entry : Table → Wanted → Entry
shown_entry table (wanted.Counted into) = Counted (option_map (naming.type_at table) into)
shown_entry table (wanted.Field of) = Field (fields_of (naming.type_at table of))
shown_entry table wanted.Never = Never

abbrev pub WantedWithin : Table → Wanted → Type 0
WantedWithin t (wanted.Counted into) = TypeWithin t into
WantedWithin t (wanted.Field of) = of < length t.types
WantedWithin t wanted.Never = Unit {0}
