-- The named types of a whole text, found before its items are read.
use Rattle.std.specs.Prelude.{Bool, true, false, ◌&&◌, if◌then◌else◌, List, [], ◌∷◌, ◌++◌, map, fold, drop, Option, Some, None, option_map, Ok, Err, codes}
use Rattle.std.specs.Map.{lookup}
use Rattle.pv_base.specs.declared.name.Name.{Name}
use Rattle.ir_tree.specs.declared.items.NamedType.{NamedType}
use Rattle.ir_tree.specs.Layouts.{layout_of}
use Rattle.ir_tree.specs.Table.{same_name, name_among}
use Rattle.ir_tree.specs.Trees.{TypeV, StructV, NamedV, NoneV}
use Rattle.ir_text.specs.Tokens.{TokenV, is_mark, is_word}
use Rattle.ir_text.specs.Reading.{Outcome, ◌>>=◌}
use Rattle.ir_text.specs.Leaves.{spelled_name}
use Rattle.ir_text.specs.Operands.{is_local}
use Rattle.ir_text.specs.Types.{Body, Known}
use Rattle.ir_grammar.specs.Items.{named_body_at}

-- `= type`
abbrev pub says_type : List TokenV → Bool
says_type [] = false
says_type (t ∷ []) = false
says_type (t ∷ u ∷ rest) = is_mark 61 t && is_word (codes "type") u

-- the names before `= type`, wherever that stands, each with the tokens behind it
unfoldable pub definitions : List TokenV → List (Name × List TokenV)
definitions [] = []
definitions (t ∷ rest) = if is_local t && says_type rest then (spelled_name t, drop 2 rest) ∷ definitions rest else definitions rest

abbrev pub unread_body : List TokenV → Body
unread_body ts = record { of = None; layout = None }

-- what the names alone say: which of them are known types
abbrev pub named_only : List (Name × List TokenV) → Known
named_only all name = option_map unread_body (lookup (same_name name) all)

abbrev pub unless_faulty : Outcome TypeV → Option TypeV
unless_faulty (Ok x) = Some x.0
unless_faulty (Err fault) = None

-- each with its body, and without one where there is a fault in it
abbrev pub bodies_of : List (Name × List TokenV) → List (Name × Option TypeV)
bodies_of all = map (λ d. (d.0, unless_faulty (named_body_at (named_only all) d.1))) all

-- a body with a fault in it takes no bytes: its uses give no fault, since that is met in the body
abbrev pub laid_body : Option TypeV → TypeV
laid_body (Some of) = of
laid_body None = StructV true NoneV

abbrev pub laid_types : List (Name × Option TypeV) → List (NamedType Name TypeV)
laid_types bodies = map (λ b. record { name = b.0; of = laid_body b.1 }) bodies

-- the types with this one, which stands last where its name is new
abbrev pub with_type : List (NamedType Name TypeV) → NamedType Name TypeV → List (NamedType Name TypeV)
with_type types t = if name_among t.name (map (λ u. u.name) types) then types else types ++ t ∷ []

-- the named types, in text order, each with the first body of its name
abbrev pub types_by : List (Name × Option TypeV) → List (NamedType Name TypeV)
types_by bodies = fold with_type [] (laid_types bodies)

-- the first body of a name counts
abbrev pub known_by : List (Name × Option TypeV) → Known
known_by bodies name = option_map (λ of. record { of = of; layout = layout_of (types_by bodies) (NamedV name) }) (lookup (same_name name) bodies)

-- the named types that a text with these tokens defines, wherever `%name = type` stands
unfoldable pub types_in : List TokenV → List (NamedType Name TypeV)
types_in ts = types_by (bodies_of (definitions ts))

-- The bodies of definitions, one after the other. A definition counts wherever it stands, also in what is passed over, and so
-- does a fault in its body.
unfoldable pub bodies_read : Known → List (Name × List TokenV) → Outcome (Unit {0})
bodies_read known [] = Ok (tt, [])
bodies_read known (d ∷ ds) = named_body_at known d.1 >>= λ of. bodies_read known ds

-- the bodies of all definitions of a text with these tokens
unfoldable pub bodies_in : List TokenV → Outcome (Unit {0})
bodies_in ts = bodies_read (named_only (definitions ts)) (definitions ts)

-- what a text with these tokens says of its named types
unfoldable pub known_in : List TokenV → Known
known_in ts = known_by (bodies_of (definitions ts))
