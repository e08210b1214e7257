-- What reading all items promises of them.
use Rattle.std.specs.Prelude.{◌≡◌, ◌<◌, ◌≤◌, ◌^◌, nat_lt, true, fold, length, List, sum_by, Ok}
use Rattle.std.specs.List.{list_all, AllByRecursion}
use Rattle.pv_base.specs.declared.name.Name.{Name}
use Rattle.pv_base.specs.Limits.{live_limit}
use Rattle.ir_tree.specs.declared.items.NamedType.{NamedType}
use Rattle.ir_tree.specs.Layouts.{layout_of}
use Rattle.ir_tree.specs.Trees.{TypeV}
use Rattle.ir_text.specs.Tokens.{TokenV}
use Rattle.ir_text.specs.Types.{Known}
use Rattle.ir_grammar.specs.Items.{items_at}
use Rattle.ir_grammar.specs.Modules.{Item, nothing_so_far, with_item}
use Rattle.ir_rules.specs.Reading.{names_differ, has_layout, constant_stands, size_of, global_names, counts_stand}
use Rattle.ir_rules.specs.Seen.{ModuleV}
use Rattle.read_laws.specs.Describing.{Describes}
use Rattle.read_laws.specs.Functions.{most_defined, FunctionStands}

-- its globals and functions have different names, its globals have layouts, initialisers that stand and no more bytes than
-- they may, and its functions stand
pub record ItemsStand (types : List (NamedType Name TypeV)) (m : ModuleV) : Type 0 where
  pub names : names_differ (global_names m) ≡ true
  pub layouts : list_all (λ g. has_layout types g.of) m.globals ≡ true
  pub initialisers : list_all (λ g. constant_stands types g.init) m.globals ≡ true
  pub sizes : sum_by (λ g. size_of (layout_of types g.of)) m.globals ≤ live_limit
  pub functions : AllByRecursion (FunctionStands types) m.functions

-- what is read of all items stands
abbrev pub AllItemsStand : Type 0
AllItemsStand =
    (known : Known) (types : List (NamedType Name TypeV)) (ts rest : List TokenV) (all : List Item)
    → Describes known types → items_at known ts ≡ Ok (all, rest) → ItemsStand types (fold with_item nothing_so_far all).module_so_far

-- it has fewer than 2^32 globals and functions, and each function fewer blocks and instructions and, with its parameters, names
pub record ItemsAreFew (m : ModuleV) : Type 0 where
  pub globals : length m.globals < 2 ^ 32
  pub functions : length m.functions < 2 ^ 32
  pub counts : list_all counts_stand m.functions ≡ true
  pub names : list_all (λ f. nat_lt (most_defined f) (2 ^ 32)) m.functions ≡ true

-- what is read of fewer than 2^32 tokens is few
abbrev pub AllItemsAreFew : Type 0
AllItemsAreFew =
    (known : Known) (ts rest : List TokenV) (all : List Item)
    → length ts < 2 ^ 32 → items_at known ts ≡ Ok (all, rest) → ItemsAreFew (fold with_item nothing_so_far all).module_so_far
