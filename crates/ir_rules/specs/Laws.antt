-- A law of the numbers of modules.
use Rattle.std.specs.Prelude.{◌≡◌, true}
use Rattle.ir_tree.specs.Table.{IsTable}
use Rattle.ir_tree.specs.Modules.{Items}
use Rattle.ir_tree.specs.Staying.{StaysSame}
use Rattle.ir_rules.specs.Numbering.{is_within}

-- a number that the table lacks would stand for something else in a later one
abbrev pub StayingIsWithin : Type 0
StayingIsWithin = (m : Items) → IsTable m.names → StaysSame m → is_within m ≡ true
