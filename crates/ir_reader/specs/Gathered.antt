-- Items by number, and what was read of a module.
use Rattle.std.specs.Prelude.{◌≡◌, ℕ, ◌+◌, ◌<◌, ◌≤◌, length, map, fold, if◌then◌else◌, List, [], Option, Some, None, Result, Ok, Err, ⊤, codes}
use Rattle.pv_base.specs.Limits.{live_limit}
use Rattle.ir_lex.specs.declared.token.Cause.TheVariants as causes
use Rattle.ir_tree.specs.Table.{Table}
use Rattle.ir_tree.specs.Naming.{name_at}
use Rattle.ir_tree.specs.Modules.{Items}
use Rattle.ir_tree.specs.Shown.{shown_named, shown_global, shown_function}
use Rattle.ir_text.specs.Tokens.{TokenV, is_word}
use Rattle.ir_text.specs.Reading.{Outcome, Reader, ◌>>=◌, wrong}
use Rattle.ir_instr.specs.Defined.{AreNames}
use Rattle.ir_grammar.specs.Modules as grammar
use Rattle.ir_grammar.specs.PassedItems.{to_string, attributes_at}
use Rattle.ir_text.specs.declared.fault.Fault.{Fault}
use Rattle.ir_text.specs.declared.fault.ReadEnd.{ReadEnd}
use Rattle.ir_text.specs.declared.fault.ReadEnd.TheVariants.{Memory, Bad}
use Rattle.ir_reader.specs.declared.named.TextTypes.{TextTypes}
use Rattle.ir_reader.specs.declared.so_far.SoFar.{SoFar}
use Rattle.ir_reader.specs.declared.so_far.Item.{Item}
use Rattle.ir_reader.specs.declared.so_far.Item.TheVariants as item

-- an item, with names, types and constants in place of their numbers
abbrev pub item_of : Table → Item → grammar.Item
item_of table (item.NamedType t) = grammar.TypeItem (shown_named table t)
item_of table (item.Global g) = grammar.GlobalItem (shown_global table g.global) g.bytes
item_of table (item.Function f) = grammar.FunctionItem (shown_function table f)
item_of table item.Passed = grammar.PassedItem

-- What was read, with names, types and constants in place of their numbers. The named types are found before.
abbrev pub so_far_at : Table → SoFar → grammar.SoFar
so_far_at table s = record {
  module_so_far = record { types = []; globals = map (shown_global table) s.globals; functions = map (shown_function table) s.functions };
  types = map (name_at table) s.types;
  values = map (name_at table) s.values;
  size = s.size;
}

-- the numbers in an item are of the table, and a global fits behind those of so many bytes
abbrev pub ItemWithin : Table → ℕ → Item → Type 0
ItemWithin table size (item.NamedType t) = t.name < length table.names
ItemWithin table size (item.Global g) = (g.global.name < length table.names) × (size + g.bytes ≤ live_limit)
ItemWithin table size (item.Function f) = f.name < length table.names
ItemWithin table size item.Passed = ⊤

-- the numbers in what was read are of the table, and the globals fit
pub record SoFarWithin (table : Table) (s : SoFar) : Type 0 where
  pub types : AreNames table s.types
  pub values : AreNames table s.values
  pub size : s.size ≤ live_limit

-- what was read before, and what is still read
abbrev pub gathered : grammar.SoFar → Outcome (List grammar.Item) → Outcome grammar.SoFar
gathered s read = read >>= λ all. Ok (fold grammar.with_item s all.0, all.1)

-- the module of what was read, unless a body has this fault
abbrev pub IsWhole : Table → TextTypes → SoFar → Option Fault → Result Items ReadEnd → Type 0
IsWhole table named s fault (Ok m) = (fault ≡ None) × (m ≡ record { names = table; types = named.types; globals = s.globals; functions = s.functions })
IsWhole table named s fault (Err Memory) = ⊤
IsWhole table named s fault (Err (Bad f)) = fault ≡ Some f

-- an item that begins with one of the words that name nothing, behind that word
abbrev pub passed_behind : TokenV → Reader (Unit {0})
passed_behind t rest =
    if is_word (codes "source_filename") t then to_string rest
    else (if is_word (codes "target") t then to_string rest
    else (if is_word (codes "attributes") t then attributes_at rest
    else wrong t causes.Instruction))

-- what was read, with the next item
abbrev pub with_next : (grammar.SoFar → Reader grammar.Item) → grammar.SoFar → Reader grammar.SoFar
with_next next s ts = next s ts >>= λ one. Ok (grammar.with_item s one.0, one.1)
