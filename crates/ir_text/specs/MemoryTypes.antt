-- The types of memory: those with a layout, among the named types of the whole text.
use Rattle.std.specs.Prelude.{◌≡◌, ℕ, ◌<◌, ◌≤◌, Bool, true, length, if◌then◌else◌, List, [], ◌∷◌, Option, is_some, option_and_then, Ok, Err}
use Rattle.pv_base.specs.declared.name.Name.{Name}
use Rattle.ir_lex.specs.declared.token.Cause.TheVariants as causes
use Rattle.ir_tree.specs.declared.layout.Layout.{Layout}
use Rattle.ir_tree.specs.Layouts.{layout_with}
use Rattle.ir_tree.specs.Filling.{answer_at, AreBounded}
use Rattle.ir_tree.specs.Table.{Table}
use Rattle.ir_tree.specs.Trees.{TypeV}
use Rattle.ir_tree.specs.Naming as naming
use Rattle.ir_text.specs.declared.fault.Fault.TheVariants.{Ended}
use Rattle.ir_text.specs.Reading.{Reader, ◌>>=◌, wrong}
use Rattle.ir_text.specs.Spelled.{Spelling}
use Rattle.ir_text.specs.Types.{Known, type_at}
use Rattle.ir_text.specs.TypeSpelled.{a_type}

-- the layouts of the named types of the whole text
abbrev pub named_layouts : Known → Name → Option Layout
named_layouts known name = option_and_then (λ b. b.layout) (known name)

abbrev pub has_layout : Known → TypeV → Bool
has_layout known of = is_some (layout_with (named_layouts known) of)

-- a type with a layout, which is else missed at the first token
unfoldable pub memory_type_at : Known → Reader TypeV
memory_type_at known [] = Err Ended
memory_type_at known (t ∷ rest) = type_at known (t ∷ rest) >>= λ x. if has_layout known x.0 then Ok x else wrong t causes.Layout

-- how it is spelled: as a type
abbrev pub a_memory_type : Known → Spelling TypeV
a_memory_type known of ws = a_type known of ws × (has_layout known of ≡ true)

-- ---- layouts by number

-- the layouts of the first types of a table
pub record AreLaid (named : Name → Option Layout) (table : Table) (found : List (Option Layout)) : Type 0 where
  pub few : length found ≤ length table.types
  pub each : (k : ℕ) → k < length found → answer_at found k ≡ layout_with named (naming.type_at table k)
  pub bounded : AreBounded found
