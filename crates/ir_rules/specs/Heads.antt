-- What parts of a table stand for: a type by its outermost level, and a name that a table may lack.
use Rattle.std.specs.Prelude.{◌≡◌, ℕ, Bool, true, nat_lt, if◌then◌else◌, List, length, map, slice_index_or, Option, Some, None, option_map, option_and_then, find}
use Rattle.std.specs.Borrow.{Bor}
use Rattle.pv_base.specs.declared.name.Name.{Name}
use Rattle.pv_base.specs.declared.name.Name.TheVariants.{Numbered}
use Rattle.ir_tree.specs.Table.{Table, same_name}
use Rattle.ir_tree.specs.Trees.{TypeV, IntV, PtrV, VoidV, ArrayV, StructV, NamedV, TypesV, ConstantV, NullC}
use Rattle.ir_tree.specs.Shown.{shown_operand}
use Rattle.ir_tree.specs.declared.nodes.ConstantNode.{ConstantNode}
use Rattle.ir_tree.specs.declared.nodes.Element.{Element}
use Rattle.ir_tree.specs.Naming.{name_at, type_at, types_at, constant_at, constant_of_node}
use Rattle.ir_rules.specs.declared.given.Given.{Given}
use Rattle.ir_rules.specs.declared.given.Given.TheVariants.{Pointer, Bit, Written}
use Rattle.ir_rules.specs.declared.given.Defined.{Defined}
use Rattle.ir_rules.specs.declared.given.Use.{Use}
use Rattle.ir_rules.specs.declared.given.Walk.{Walk}
use Rattle.ir_rules.specs.declared.given.Walk.TheVariants.{Through, Differs, Outside}
use Rattle.ir_rules.specs.declared.paths.Fields.{Fields}
use Rattle.ir_tree.specs.Modules.{Items}
use Rattle.ir_rules.specs.declared.tables.Tables.{Tables}
use Rattle.ir_rules.specs.Seen.{seen}
use Rattle.ir_rules.specs.Classes.{AreClasses}
use Rattle.ir_rules.specs.Constants.{names_known, holds_together}
use Rattle.ir_rules.specs.Defining.{given_type}
use Rattle.ir_rules.specs.declared.types.Head.{Head}
use Rattle.ir_rules.specs.declared.types.Head.TheVariants as head

abbrev pub head_type : Table → Head → TypeV
head_type t (head.Int w) = IntV w
head_type t head.Pointer = PtrV
head_type t head.Void = VoidV
head_type t (head.Array n k) = ArrayV n (type_at t k)
head_type t (head.Struct packed fields) = StructV packed (types_at t fields.now)
head_type t (head.Named k) = NamedV (name_at t k)

-- a name that a table lacks is the name 0
abbrev pub name_or : Option (Bor Name) → Name
name_or None = Numbered 0
name_or (Some name) = name.now

abbrev pub shown_given : Table → Given ℕ → Given TypeV
shown_given t Pointer = Pointer
shown_given t Bit = Bit
shown_given t (Written k) = Written (type_at t k)

abbrev pub shown_use : Table → Use ℕ ℕ ℕ → Use Name TypeV ConstantV
shown_use t u = record { value = shown_operand t u.value; of = shown_given t u.of }

abbrev pub shown_defined : Table → Defined ℕ ℕ → Defined Name TypeV
shown_defined t d = record { name = name_at t d.name; of = option_map (shown_given t) d.of }

abbrev pub shown_walk : Table → Walk ℕ → Walk TypeV
shown_walk t (Through k) = Through (type_at t k)
shown_walk t Differs = Differs
shown_walk t Outside = Outside

-- the fields of a struct, and whether it is packed
abbrev pub shown_fields : Table → Option (Fields) → Option (Bool × TypesV)
shown_fields t None = None
shown_fields t (Some f) = Some (f.packed, types_at t f.fields.now)

-- what a number stands for among the constants before one
abbrev pub constant_below : Table → ℕ → ℕ → ConstantV
constant_below t k i = if nat_lt i k then constant_at t i else NullC

-- the constant of a node, from those before its number; without a node `null`
abbrev pub node_constant : Table → ℕ → Option ConstantNode → ConstantV
node_constant t k None = NullC
node_constant t k (Some n) = constant_of_node (name_at t) (type_at t) (constant_below t k) n

-- a flag for each of the first constants
abbrev pub flag_at : List Bool → ℕ → Bool
flag_at flags i = slice_index_or flags i true

-- the flags tell what holds of the first constants
pub record FlagsBelow (t : Table) (holds : ConstantV → Bool) (flags : List Bool) : Type 0 where
  pub each : (i : ℕ) → flag_at flags i ≡ holds (constant_below t (length flags) i)

-- the flags tell what holds of each constant
pub record AreFlags (t : Table) (holds : ConstantV → Bool) (flags : List Bool) : Type 0 where
  pub each : (i : ℕ) → flag_at flags i ≡ holds (constant_at t i)

-- the numbers of the types that are written before elements
abbrev pub element_types : List Element → List ℕ
element_types elements = map (λ e. e.of) elements

-- the type of a register, looked for among what its function defines
abbrev pub found_type : Table → List (Defined ℕ ℕ) → Name → Option TypeV
found_type t defined name = option_and_then (λ d. option_map given_type d.of) (find (λ d. same_name name d.name) (map (shown_defined t) defined))

-- what is found once of the types and constants of a module
pub record AreTables (m : Items) (t : Tables) : Type 0 where
  pub classes : AreClasses m.names t.classes
  pub known : AreFlags m.names (names_known (seen m)) t.known
  pub together : AreFlags m.names (holds_together (seen m)) t.together
