-- What a text says of its named types, and the named types of a module.
use Rattle.std.specs.Prelude.{◌≡◌, length, List, is_some, option_and_then}
use Rattle.pv_base.specs.declared.name.Name.{Name}
use Rattle.ir_tree.specs.declared.items.NamedType.{NamedType}
use Rattle.ir_tree.specs.Layouts.{type_named, named_layout}
use Rattle.ir_tree.specs.Trees.{TypeV}
use Rattle.ir_text.specs.MemoryTypes.{named_layouts}
use Rattle.ir_text.specs.Types.{Known}
use Rattle.ir_rules.specs.Reading.{is_known_type}

-- the same names, the same bodies, with no fault in any, and the same layouts
pub record Describes (known : Known) (types : List (NamedType Name TypeV)) : Type 0 where
  pub names : (name : Name) → is_some (known name) ≡ is_known_type types name
  pub bodies : (name : Name) → option_and_then (λ b. b.of) (known name) ≡ type_named types name
  pub layouts : (name : Name) → named_layouts known name ≡ named_layout (length types) types name
