-- Layouts by number, as they are found.
use Rattle.std.specs.Prelude.{◌≡◌, ◌<◌, ◌+◌, ℕ, nat_eq, if◌then◌else◌, List, [], ◌∷◌, length, map, Option, Some, None, IfSome, option_and_then, slice_get, slice_index_or, slice_set, Bool, true, false, All}
use Rattle.pv_base.specs.declared.name.Name.{Name}
use Rattle.ir_tree.specs.declared.layout.Layout.{Layout}
use Rattle.ir_tree.specs.declared.items.NamedType.{NamedType}
use Rattle.ir_tree.specs.declared.nodes.TypeNode.{TypeNode}
use Rattle.ir_tree.specs.declared.nodes.TypeNode.TheVariants as node
use Rattle.ir_tree.specs.Table.{Table}
use Rattle.ir_tree.specs.Trees.{TypeV}
use Rattle.ir_tree.specs.Naming.{type_at}
use Rattle.ir_tree.specs.Shown.{shown_named}
use Rattle.ir_tree.specs.Layouts.{int_layout, array_layout, struct_layout, place_in, layout_of}
use Rattle.ir_tree.specs.Bounds.{IsLayout}

-- the layout that was found for a number
abbrev pub answer_at : List (Option Layout) → ℕ → Option Layout
answer_at answers k = slice_index_or answers k None

-- the type of a name's number
abbrev pub body_of : List (NamedType ℕ ℕ) → ℕ → Option ℕ
body_of [] x = None
body_of (t ∷ ts) x = if nat_eq x t.name then Some t.of else body_of ts x

-- the layout that was found for a name's number
abbrev pub named_answer : List (Option ℕ) → List (Option Layout) → ℕ → Option Layout
named_answer bodies answers x = option_and_then (answer_at answers) (slice_index_or bodies x None)

-- the layout of a node, from those of the numbers and the names in it
abbrev pub node_layout : (ℕ → Option Layout) → (ℕ → Option Layout) → TypeNode → Option Layout
node_layout at named (node.Int width) = int_layout width
node_layout at named node.Ptr = Some (record { size = 8; align = 8 })
node_layout at named node.Void = None
node_layout at named (node.Array count k) = array_layout count (at k)
node_layout at named (node.Struct packed ks) = struct_layout packed (map at ks)
node_layout at named (node.Named x) = named x

-- each that was found is bounded
abbrev pub AreBounded : List (Option Layout) → Type 0
AreBounded answers = (k : ℕ) → IfSome (answer_at answers k) IsLayout

-- the numbers of a named type are of the table
pub record NamedWithin (t : Table) (n : NamedType ℕ ℕ) : Type 0 where
  pub name : n.name < length t.names
  pub of : n.of < length t.types

-- the named types of a module, with names and types in place of their numbers
abbrev pub named_types : Table → List (NamedType ℕ ℕ) → List (NamedType Name TypeV)
named_types t ns = map (shown_named t) ns

-- each name's type
pub record AreBodies (ns : List (NamedType ℕ ℕ)) (count : ℕ) (bodies : List (Option ℕ)) : Type 0 where
  pub len : length bodies ≡ count
  pub each : (x : ℕ) → x < count → slice_index_or bodies x None ≡ body_of ns x

-- no more layouts are to be found at a number
abbrev pub IsDone : Table → List (Option ℕ) → List (Option Layout) → ℕ → Type 0
IsDone t bodies answers k = (n : TypeNode) → slice_get t.types k ≡ Some n → answer_at answers k ≡ None → node_layout (answer_at answers) (named_answer bodies answers) n ≡ None

-- a layout was found
pub record Finds (t : Table) (bodies : List (Option ℕ)) (old new : List (Option Layout)) (k : ℕ) : Type 0 where
  pub type : TypeNode
  pub layout : Layout
  pub known : slice_get t.types k ≡ Some type
  pub unknown : answer_at old k ≡ None
  pub is : node_layout (answer_at old) (named_answer bodies old) type ≡ Some layout
  pub new_is : new ≡ slice_set old k (Some layout)

-- the try of one number, which tells whether it found a layout
abbrev pub Tries : Table → List (Option ℕ) → List (Option Layout) → List (Option Layout) → ℕ → Bool → Type 0
Tries t bodies old new k true = Finds t bodies old new k
Tries t bodies old new k false = (new ≡ old) × IsDone t bodies old k

-- each layout that was found is that of its type
abbrev pub AreLayouts : Table → List (NamedType ℕ ℕ) → List (Option Layout) → Type 0
AreLayouts t ns answers = (k : ℕ) → k < length t.types → answer_at answers k ≡ layout_of (named_types t ns) (type_at t k)

-- layouts that are found one after another
pub data Reaches (t : Table) (bodies : List (Option ℕ)) (a : List (Option Layout)) : List (Option Layout) → Type 0 where
  Stays : Reaches t bodies a a
  Further : {b c : List (Option Layout)} {k : ℕ} → Reaches t bodies a b → Finds t bodies b c k → Reaches t bodies a c

-- how many layouts are not found
abbrev pub missing : List (Option Layout) → ℕ
missing [] = 0
missing (None ∷ answers) = 1 + missing answers
missing (Some l ∷ answers) = missing answers

-- how a pass over the numbers below one has gone: it found a layout, or none is to be found there
abbrev pub PassEnds : Table → List (Option ℕ) → List (Option Layout) → List (Option Layout) → ℕ → Bool → Type 0
PassEnds t bodies old new count true = missing new < missing old
PassEnds t bodies old new count false = (new ≡ old) × ((k : ℕ) → k < count → IsDone t bodies old k)

-- a pass over the numbers below one
pub record Passes (t : Table) (bodies : List (Option ℕ)) (old new : List (Option Layout)) (count : ℕ) (found : Bool) : Type 0 where
  pub reaches : Reaches t bodies old new
  pub len : length new ≡ length old
  pub bounded : AreBounded new
  pub ends : PassEnds t bodies old new count found

-- layouts are found until no more are to be found
pub record Settles (t : Table) (bodies : List (Option ℕ)) (old new : List (Option Layout)) : Type 0 where
  pub reaches : Reaches t bodies old new
  pub len : length new ≡ length old
  pub bounded : AreBounded new
  pub done : (k : ℕ) → k < length new → IsDone t bodies new k

-- where the fields of a struct stand, from what was found for them
pub record ArePlaces (packed : Bool) (fields : List (Option Layout)) (places : List (Option ℕ)) : Type 0 where
  pub len : length places ≡ length fields
  pub each : (i : ℕ) → i < length fields → slice_index_or places i None ≡ place_in packed fields i

-- the same of the fields of a node, which has none where it is no struct
abbrev pub NodePlaces : List (Option Layout) → List (Option ℕ) → TypeNode → Type 0
NodePlaces answers places (node.Struct packed ks) = ArePlaces packed (map (answer_at answers) ks) places
NodePlaces answers places n = places ≡ []

-- the places of the fields of each type
pub record AllPlaces (t : Table) (answers : List (Option Layout)) (count : ℕ) (places : List (List (Option ℕ))) : Type 0 where
  pub len : length places ≡ count
  pub each : (k : ℕ) (n : TypeNode) → k < count → slice_get t.types k ≡ Some n → NodePlaces answers (slice_index_or places k []) n

-- what is found once of the types of a module
pub record Found : Type 0 where
  pub layouts : List (Option Layout)
  pub bodies : List (Option ℕ)
  pub places : List (List (Option ℕ))

-- what was found is of this table and these named types
pub record IsFound (t : Table) (ns : List (NamedType ℕ ℕ)) (f : Found) : Type 0 where
  pub within : All (NamedWithin t) ns
  pub layouts : AreLayouts t ns f.layouts
  pub bounded : AreBounded f.layouts
  pub bodies : AreBodies ns (length t.names) f.bodies
  pub places : AllPlaces t f.layouts (length t.types) f.places

-- where a field of the type of a number stands
abbrev pub place_at : Found → ℕ → ℕ → Option ℕ
place_at f k i = slice_index_or (slice_index_or f.places k []) i None

-- the same of a type that may be named
abbrev pub node_place : Found → TypeNode → ℕ → ℕ → Option ℕ
node_place f (node.Named x) k i = option_and_then (λ b. place_at f b i) (slice_index_or f.bodies x None)
node_place f n k i = place_at f k i

-- the number of a type, or of what it is a name of
abbrev pub node_body : Found → TypeNode → ℕ → Option ℕ
node_body f (node.Named x) k = slice_index_or f.bodies x None
node_body f n k = Some k
