-- What a table shows, a later one shows.
use Rattle.std.proofs.Common.{◌≡◌, ℕ, length, Some, slice_get, ◌<◌}
use Rattle.std.proofs.lemmas.Option.{get_or_from_slice_get, slice_get_within}
use Rattle.pv_base.specs.declared.name.Name.{Name}
use Rattle.pv_base.specs.declared.name.Name.TheVariants.{Numbered}
use Rattle.ir_tree.specs.Table.{Table}
use Rattle.ir_tree.specs.Naming.{Grows, name_at}
use Rattle.ir_tree.proofs.Showing.{grows_then, type_within_more, constant_within_more, name_within_more}

pub named_later : (table later : Table) (k : ℕ) (name : Name) → slice_get table.names k ≡ Some name → Grows table later → name_at later k ≡ name
named_later table later k name known grows = get_or_from_slice_get later.names k name (Numbered 0) (grows.names k name known)

pub named_within : (table : Table) (k : ℕ) (name : Name) → slice_get table.names k ≡ Some name → k < length table.names
named_within table k name known = slice_get_within table.names k name known

pub ruleset later = (grows_then, type_within_more, constant_within_more, name_within_more)

pub ruleset named = (named_later, named_within)
