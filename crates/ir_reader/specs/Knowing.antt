-- The named types of a whole text, by number.
use Rattle.std.specs.Prelude.{ℕ, ◌<◌, ◌&&◌, if◌then◌else◌, length, map, fold, drop, List, [], ◌∷◌, ◌++◌, Option, Some, None, option_map, IfSome, Ok, Err}
use Rattle.pv_base.specs.declared.name.Name.{Name}
use Rattle.ir_tree.specs.declared.layout.Layout.{Layout}
use Rattle.ir_tree.specs.declared.items.NamedType.{NamedType}
use Rattle.ir_tree.specs.Filling.{answer_at}
use Rattle.ir_tree.specs.Naming.{Shows, name_at, type_at}
use Rattle.ir_tree.specs.Table.{Table}
use Rattle.ir_tree.specs.Trees.{TypeV, NamedV}
use Rattle.ir_text.specs.declared.fault.Fault.{Fault}
use Rattle.ir_text.specs.declared.named.NamedBody.{NamedBody}
use Rattle.ir_text.specs.Tokens.{TokenV}
use Rattle.ir_text.specs.Leaves.{spelled_name}
use Rattle.ir_text.specs.Reading.{Outcome}
use Rattle.ir_text.specs.Operands.{is_local}
use Rattle.ir_text.specs.Types.{Known}
use Rattle.ir_instr.specs.Defined.{number_among}
use Rattle.ir_grammar.specs.Items.{named_body_at}
use Rattle.ir_grammar.specs.NamedTypes.{says_type, unless_faulty, laid_body}
use Rattle.ir_reader.specs.declared.named.DefinedType.{DefinedType}

-- `%name = type` at the front: the name, and the tokens behind it
unfoldable pub definition_at : List TokenV → Option (Name × List TokenV)
definition_at [] = None
definition_at (t ∷ rest) = if is_local t && says_type rest then Some (spelled_name t, drop 2 rest) else None

-- each name with its body, where these names are known types
abbrev pub read_bodies : Known → List (Name × List TokenV) → List (Name × Option TypeV)
read_bodies known all = map (λ d. (d.0, unless_faulty (named_body_at known d.1))) all

-- the fault with which a reading ended, if it did
abbrev pub fault_in : Outcome (Unit {0}) → Option Fault
fault_in (Ok x) = None
fault_in (Err fault) = Some fault

-- a type that the text defines, with its name and its body in place of their numbers
abbrev pub shown_defined : Table → DefinedType → Name × Option TypeV
shown_defined table d = (name_at table d.name, option_map (type_at table) d.of)

-- its numbers are of the table, and stand for what they are said to
pub record IsDefined (table : Table) (d : DefinedType) : Type 0 where
  pub name : d.name < length table.names
  pub of : IfSome d.of (λ k. k < length table.types)
  pub laid : Shows table d.laid (λ later. laid_body (option_map (type_at later) d.of))
  pub named : Shows table d.named (λ later. NamedV (name_at later d.name))

-- the type that is laid out for it
abbrev pub named_type : DefinedType → NamedType ℕ ℕ
named_type d = record { name = d.name; of = d.laid }

-- the types with this one, which stands last where its name is new
abbrev pub with_type : List (NamedType ℕ ℕ) → NamedType ℕ ℕ → List (NamedType ℕ ℕ)
with_type types t = if number_among t.name (map (λ u. u.name) types) then types else types ++ t ∷ []

-- the types that are laid out, of each name the first
abbrev pub first_types : List DefinedType → List (NamedType ℕ ℕ)
first_types all = fold with_type [] (map named_type all)

-- what is said of its name, by the layouts that were found
abbrev pub entry_of : Table → List (Option Layout) → DefinedType → Name × NamedBody
entry_of table found d = (name_at table d.name, record { of = d.of; layout = answer_at found d.named })
