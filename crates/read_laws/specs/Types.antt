-- What holds of the named types of a text.
use Rattle.std.specs.Prelude.{◌≡◌, true, is_some, map, List}
use Rattle.std.specs.List.{list_all}
use Rattle.pv_base.specs.declared.name.Name.{Name}
use Rattle.ir_tree.specs.declared.items.NamedType.{NamedType}
use Rattle.ir_tree.specs.Trees.{TypeV}
use Rattle.ir_text.specs.Tokens.{TokenV}
use Rattle.ir_grammar.specs.NamedTypes.{definitions, bodies_of, types_in, known_in}
use Rattle.ir_rules.specs.Reading.{names_differ, is_struct, type_stands}
use Rattle.read_laws.specs.Describing.{Describes}

-- wherever `%name = type` stands, the body behind it is read
abbrev pub BodiesAreRead : List TokenV → Type 0
BodiesAreRead ts = list_all (λ b. is_some b.1) (bodies_of (definitions ts)) ≡ true

-- what a text says of its named types describes the types that it has
abbrev pub TextsDescribe : Type 0
TextsDescribe = (ts : List TokenV) → BodiesAreRead ts → Describes (known_in ts) (types_in ts)

-- they are structs that stand at each level, and no name has two
pub record TypesStand (types : List (NamedType Name TypeV)) : Type 0 where
  pub structs : list_all (λ t. is_struct t.of) types ≡ true
  pub bodies : list_all (λ t. type_stands types t.of) types ≡ true
  pub names : names_differ (map (λ t. t.name) types) ≡ true

abbrev pub AllTypesStand : Type 0
AllTypesStand = (ts : List TokenV) → TypesStand (types_in ts)
