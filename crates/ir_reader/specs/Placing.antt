-- Types of globals, by number.
use Rattle.ir_tree.specs.Table.{Table}
use Rattle.ir_tree.specs.Naming.{type_at}
use Rattle.ir_tree.specs.Shown.{shown_global}
use Rattle.ir_tree.specs.Trees.{TypeV, ConstantV}
use Rattle.ir_tree.specs.declared.items.Global.{Global}
use Rattle.pv_base.specs.declared.name.Name.{Name}
use Rattle.ir_reader.specs.declared.global.Placed.{Placed}
use Rattle.ir_reader.specs.declared.global.PlacedGlobal.{PlacedGlobal}

abbrev pub type_of : Table → Placed → TypeV
type_of table p = type_at table p.of

-- a global, with names, types and constants in place of their numbers
abbrev pub global_of : Table → PlacedGlobal → Global Name TypeV ConstantV
global_of table p = shown_global table p.global
