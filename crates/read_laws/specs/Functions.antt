-- What reading a function promises of it.
use Rattle.std.specs.Prelude.{◌≡◌, ◌≤◌, ◌+◌, ◌^◌, ℕ, true, map, length, List, Ok}
use Rattle.std.specs.List.{list_all, AllByRecursion}
use Rattle.pv_base.specs.declared.name.Name.{Name}
use Rattle.ir_tree.specs.declared.items.NamedType.{NamedType}
use Rattle.ir_tree.specs.Trees.{TypeV}
use Rattle.ir_text.specs.Tokens.{TokenV}
use Rattle.ir_text.specs.Types.{Known}
use Rattle.ir_grammar.specs.Items.{declaration_at, definition_at}
use Rattle.ir_rules.specs.Defining.{defined}
use Rattle.ir_rules.specs.Reading.{names_differ, is_register, is_answer, form_stands, name_stands}
use Rattle.ir_rules.specs.Spots.{instruction_count}
use Rattle.ir_rules.specs.Seen.{FunctionV}
use Rattle.read_laws.specs.Describing.{Describes}
use Rattle.read_laws.specs.Laws.{IsRead}

-- what a function can define
abbrev pub most_defined : FunctionV → ℕ
most_defined f = length f.params + (length f.blocks + instruction_count f.blocks)

-- its result and its parameters are of types of registers, it defines nothing twice, and its instructions are read
pub record FunctionStands (types : List (NamedType Name TypeV)) (f : FunctionV) : Type 0 where
  pub answer : is_answer f.result ≡ true
  pub params : list_all (λ p. is_register p.of) f.params ≡ true
  pub names : names_differ (map (λ d. d.name) (defined f)) ≡ true
  pub form : form_stands f ≡ true
  pub numbers : most_defined f ≤ 2 ^ 63 → list_all name_stands (map (λ d. d.name) (defined f)) ≡ true
  pub instructions : AllByRecursion (λ b. AllByRecursion (IsRead types) b.instructions) f.blocks

-- a function that is declared stands
abbrev pub DeclarationsStand : Type 0
DeclarationsStand =
    (types : List (NamedType Name TypeV)) (values : List Name) (ts rest : List TokenV) (f : FunctionV) → declaration_at values ts ≡ Ok (f, rest) → FunctionStands types f

-- a function that is defined stands
abbrev pub DefinitionsStand : Type 0
DefinitionsStand =
    (known : Known) (types : List (NamedType Name TypeV)) (values : List Name) (ts rest : List TokenV) (f : FunctionV)
    → Describes known types → definition_at known values ts ≡ Ok (f, rest) → FunctionStands types f
