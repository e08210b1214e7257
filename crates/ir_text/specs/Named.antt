-- The named types of a whole text.
use Rattle.std.specs.Prelude.{List, Option, IfSome, option_map, option_and_then}
use Rattle.std.specs.Map.{lookup}
use Rattle.pv_base.specs.declared.name.Name.{Name}
use Rattle.ir_tree.specs.declared.layout.Layout.{Layout}
use Rattle.ir_tree.specs.Bounds.{IsLayout}
use Rattle.ir_tree.specs.Table.{Table, same_name}
use Rattle.ir_tree.specs.Naming as naming
use Rattle.ir_text.specs.declared.named.NamedBody.{NamedBody}
use Rattle.ir_text.specs.Types.{Body, Known}

-- the body of a name
abbrev pub body_in : List (Name × NamedBody) → Name → Option NamedBody
body_in bodies name = lookup (same_name name) bodies

-- with the type in place of its number
abbrev pub body_of : Table → NamedBody → Body
body_of table b = record { of = option_map (naming.type_at table) b.of; layout = b.layout }

abbrev pub known_of : Table → List (Name × NamedBody) → Known
known_of table bodies name = option_map (body_of table) (body_in bodies name)

abbrev pub own_layout : NamedBody → Option Layout
own_layout b = b.layout

-- the layout of a name
abbrev pub layout_in : List (Name × NamedBody) → Name → Option Layout
layout_in bodies name = option_and_then own_layout (body_in bodies name)

-- each of them is a layout
abbrev pub HasLayouts : List (Name × NamedBody) → Type 0
HasLayouts bodies = (name : Name) → IfSome (layout_in bodies name) IsLayout
