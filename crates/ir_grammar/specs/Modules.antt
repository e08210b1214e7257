-- The items of a text, and what of its module was read so far.
use Rattle.std.specs.Prelude.{ℕ, ◌+◌, List, [], ◌∷◌, ◌++◌}
use Rattle.pv_base.specs.declared.name.Name.{Name}
use Rattle.ir_tree.specs.declared.items.NamedType.{NamedType}
use Rattle.ir_tree.specs.declared.items.Global.{Global}
use Rattle.ir_tree.specs.declared.items.Function.{Function}
use Rattle.ir_tree.specs.Table.{with_name}
use Rattle.ir_tree.specs.Trees.{TypeV, ConstantV}
pub use Rattle.ir_tree.specs.Written.{ModuleV, shown_module}

-- an item of a text
pub data Item : Type 0 where
  TypeItem : NamedType Name TypeV → Item
  -- a global, and the bytes that it takes
  GlobalItem : Global Name TypeV ConstantV → ℕ → Item
  FunctionItem : Function Name TypeV ConstantV → Item
  -- one that is passed over
  PassedItem : Item

-- What was read of a module: its globals and functions so far, the names of its named types, those of its globals and
-- functions, which are one set, and how many bytes its globals take. The named types themselves are found before.
pub record SoFar : Type 0 where
  pub module_so_far : ModuleV
  pub types : List Name
  pub values : List Name
  pub size : ℕ

abbrev pub nothing_so_far : SoFar
nothing_so_far = record { module_so_far = record { types = []; globals = []; functions = [] }; types = []; values = []; size = 0 }

-- with one more item
abbrev pub with_item : SoFar → Item → SoFar
with_item s (TypeItem t) = record s { types = with_name s.types t.name }
with_item s (GlobalItem g size) = record {
  module_so_far = record s.module_so_far { globals = s.module_so_far.globals ++ g ∷ [] };
  types = s.types;
  values = with_name s.values g.name;
  size = s.size + size;
}
with_item s (FunctionItem f) = record {
  module_so_far = record s.module_so_far { functions = s.module_so_far.functions ++ f ∷ [] };
  types = s.types;
  values = with_name s.values f.name;
  size = s.size;
}
with_item s PassedItem = s
