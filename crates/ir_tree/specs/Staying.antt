-- Modules that stay the same as more is added to their tables.
use Rattle.std.specs.Prelude.{◌≡◌}
use Rattle.ir_tree.specs.Table.{Table}
use Rattle.ir_tree.specs.Naming.{Grows}
use Rattle.ir_tree.specs.Modules.{Items}
use Rattle.ir_tree.specs.Written.{shown_module}

-- what is written out stays the same in every later table
abbrev pub StaysSame : Items → Type 0
StaysSame m = (later : Table) → Grows m.names later → shown_module (record m { names = later }) ≡ shown_module m
