-- What reading keeps, as tests in five groups.
use Rattle.std.specs.Prelude.{Bool, ◌&&◌, nat_lt, nat_le, length, map}
use Rattle.pv_base.specs.Limits.{live_limit}
use Rattle.std.specs.List.{list_all}
use Rattle.ir_tree.specs.Naming.{type_at, constant_at}
use Rattle.ir_tree.specs.Modules.{Items}
use Rattle.ir_rules.specs.Seen.{seen}
use Rattle.ir_rules.specs.Numbering.{is_within}
use Rattle.ir_rules.specs.Reading.{name_stands, level_stands, address_stands, is_struct, names_differ, global_names, has_layout, global_sizes, function_stands, numbers_below}

unfoldable pub table_stands : Items → Bool
table_stands m =
    list_all name_stands m.names.names && list_all (λ k. level_stands (seen m).types (type_at m.names k)) (numbers_below (length m.names.types))
    && list_all (λ k. address_stands (seen m).types (constant_at m.names k)) (numbers_below (length m.names.constants))

unfoldable pub items_differ : Items → Bool
items_differ m = list_all (λ t. is_struct t.of) (seen m).types && names_differ (map (λ t. t.name) (seen m).types) && names_differ (global_names (seen m))

unfoldable pub globals_stand : Items → Bool
globals_stand m =
    list_all (λ g. has_layout (seen m).types g.of) (seen m).globals && nat_le (global_sizes (seen m)) live_limit && nat_lt (length (seen m).globals) 4294967296
    && nat_lt (length (seen m).functions) 4294967296

unfoldable pub module_stands : Items → Bool
module_stands m = is_within m && table_stands m && items_differ m && globals_stand m && list_all (function_stands (seen m).types) (seen m).functions
