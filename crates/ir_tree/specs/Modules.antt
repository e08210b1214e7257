-- A module, as its parts, and layouts within it.
use Rattle.std.specs.Prelude.{ℕ, List, Option}
use Rattle.pv_base.specs.declared.name.Name.{Name}
use Rattle.ir_tree.specs.declared.items.NamedType.{NamedType}
use Rattle.ir_tree.specs.declared.items.Global.{Global}
use Rattle.ir_tree.specs.declared.items.Function.{Function}
use Rattle.ir_tree.specs.declared.layout.Layout.{Layout}
use Rattle.ir_tree.specs.Table.{Table}
use Rattle.ir_tree.specs.Trees.{TypeV}
use Rattle.ir_tree.specs.Naming.{type_at}
use Rattle.ir_tree.specs.Layouts.{layout_of, offset_of}
use Rattle.ir_tree.specs.Filling.{named_types}

-- the table and the items of a module
pub record Items : Type 0 where
  pub names : Table
  pub types : List (NamedType ℕ ℕ)
  pub globals : List (Global ℕ ℕ ℕ)
  pub functions : List (Function ℕ ℕ ℕ)

-- the named types of a module, with names and types in place of their numbers
abbrev pub types_of : Items → List (NamedType Name TypeV)
types_of m = named_types m.names m.types

-- the layout of the type of a number
abbrev pub layout_in : Items → ℕ → Option Layout
layout_in m of = layout_of (types_of m) (type_at m.names of)

-- the offset in bytes of a field of the type of a number, where that is a struct with that field
abbrev pub offset_in : Items → ℕ → ℕ → Option ℕ
offset_in m of i = offset_of (types_of m) (type_at m.names of) i
