-- A module with its names, types and constants written out. The numbers that a table gives them are no part of it.
use Rattle.std.specs.Prelude.{List, map}
use Rattle.pv_base.specs.declared.name.Name.{Name}
use Rattle.ir_tree.specs.declared.items.NamedType.{NamedType}
use Rattle.ir_tree.specs.declared.items.Global.{Global}
use Rattle.ir_tree.specs.declared.items.Function.{Function}
use Rattle.ir_tree.specs.Trees.{TypeV, ConstantV}
use Rattle.ir_tree.specs.Shown.{shown_named, shown_global, shown_function}
use Rattle.ir_tree.specs.Modules.{Items}

-- a module, its items in text order
pub record ModuleV : Type 0 where
  pub types : List (NamedType Name TypeV)
  pub globals : List (Global Name TypeV ConstantV)
  pub functions : List (Function Name TypeV ConstantV)

-- a module of a table, written out
abbrev pub shown_module : Items → ModuleV
shown_module m = record {
  types = map (shown_named m.names) m.types;
  globals = map (shown_global m.names) m.globals;
  functions = map (shown_function m.names) m.functions;
}
