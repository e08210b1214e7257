-- Where the fields of a type stand, by what was found.
use Rattle.std.proofs.Common.{◌≡◌, ℕ, ◌<◌, ◌≤◌, Bool, List, [], ◌∷◌, map, length, Option, Some, None, slice_get, get_or, refl, sym, ap, ◌∙◌, arith, inl, inr}
use Rattle.std.specs.Prelude.{option_map, option_and_then}
use Rattle.std.specs.List.{AllByRecursion}
use Rattle.std.proofs.lemmas.List.Elements.{recursion_from_All}
use Rattle.std.proofs.lemmas.List.{get_or_past}
use Rattle.std.proofs.lemmas.Option.{slice_get-get_or, slice_get_within}
use Rattle.std.proofs.lemmas.Bool.{cases_Bool}
use Rattle.std.specs.Prelude.{nat_lt}
use borrow.Author.Tests.{ltb-true, ltb-false}
use Rattle.ir_tree.specs.declared.layout.Layout.{Layout}
use Rattle.ir_tree.specs.declared.items.NamedType.{NamedType}
use Rattle.ir_tree.specs.declared.nodes.TypeNode.{TypeNode}
use Rattle.ir_tree.specs.declared.nodes.TypeNode.TheVariants as node
use Rattle.ir_tree.specs.Table.{Table, IsTable}
use Rattle.ir_tree.specs.Naming.{name_at, type_at, type_of_node}
use Rattle.ir_tree.specs.Layouts.{field_place, place_in, struct_fields, offset_of, layout_with, layouts_with, named_layout, type_named}
use Rattle.ir_tree.specs.Filling.{answer_at, body_of, named_types, NamedWithin, ArePlaces, NodePlaces, Found, IsFound, place_at, node_place}
use Rattle.ir_tree.proofs.Filled.{type_is, fields_by}
use Rattle.ir_tree.proofs.Bodies.{named_body, body_inside}

no_place : (packed : Bool) (so : Option Layout) → option_and_then (λ s. option_map (field_place packed s) None) so ≡ None
no_place packed None = refl
no_place packed (Some so) = refl

place_past : (packed : Bool) (fields : List (Option Layout)) (i : ℕ) → length fields ≤ i → place_in packed fields i ≡ None
place_past packed fields i le = let past : get_or fields i None ≡ None = get_or_past fields i None le in rw past (no_place packed _)

place_is : (packed : Bool) (fields : List (Option Layout)) (places : List (Option ℕ)) (i : ℕ) → ArePlaces packed fields places → get_or places i None ≡ place_in packed fields i
place_is packed fields places i are =
    elim (cases_Bool (nat_lt i (length fields))) [
      | inl lt ↦ are.each i (ltb-true i (length fields) lt)
      | inr not_lt ↦ let le : length fields ≤ i = ltb-false i (length fields) not_lt in let len = are.len in get_or_past places i None (omega arith) ∙ sym (place_past packed fields i le)
    ]

same_fields : (at to : ℕ → Option Layout) (k : ℕ) (ks : List ℕ) → AllByRecursion (λ j. j < k) ks → ((j : ℕ) → j < k → at j ≡ to j) → map at ks ≡ map to ks
same_fields at to k [] below same = refl
same_fields at to k (j ∷ js) below same =
    let first : at j ≡ to j = same j below.0 in
    let others = same_fields at to k js below.1 same in
    cc

-- the place of a field of a node that is a struct
own : (t : Table) (ns : List (NamedType ℕ ℕ)) (f : Found) (k i : ℕ) (n : TypeNode) → IsTable t → IsFound t ns f → slice_get t.types k ≡ Some n → NodePlaces f.layouts (get_or f.places k []) n
    → place_at f k i ≡ option_and_then (λ p. place_in p.0 (layouts_with (named_layout (length (named_types t ns)) (named_types t ns)) p.1) i) (struct_fields (type_of_node (name_at t) (type_at t) n))
own t ns f k i (node.Int w) is found known places = rw places refl
own t ns f k i node.Ptr is found known places = rw places refl
own t ns f k i node.Void is found known places = rw places refl
own t ns f k i (node.Array m of) is found known places = rw places refl
own t ns f k i (node.Named x) is found known places = rw places refl
own t ns f k i (node.Struct packed ks) is found known places =
    let within : k < length t.types = slice_get_within t.types k _ known in
    let fields = fields_by (named_layout (length (named_types t ns)) (named_types t ns)) (type_at t) ks in
    let same = same_fields (answer_at f.layouts) (λ j. layout_with (named_layout (length (named_types t ns)) (named_types t ns)) (type_at t j)) k ks
    (recursion_from_All (λ j. j < k) ks (is.types k (node.Struct packed ks) known)) (λ j lt. found.layouts j (omega arith)) in
    place_is packed (map (answer_at f.layouts) ks) (get_or f.places k []) i places ∙ ap (λ (ls : List (Option Layout)). place_in packed ls i) (same ∙ sym fields)

own_at : (t : Table) (ns : List (NamedType ℕ ℕ)) (f : Found) (k i : ℕ) (n : TypeNode) → IsTable t → IsFound t ns f → slice_get t.types k ≡ Some n
    → place_at f k i ≡ option_and_then (λ p. place_in p.0 (layouts_with (named_layout (length (named_types t ns)) (named_types t ns)) p.1) i) (struct_fields (type_at t k))
own_at t ns f k i n is found known =
    let within : k < length t.types = slice_get_within t.types k n known in
    rw (type_is t k n is known) (own t ns f k i n is found known (found.places.each k n within known))

body_place : (t : Table) (ns : List (NamedType ℕ ℕ)) (f : Found) (x i : ℕ) (o : Option ℕ) → IsTable t → IsFound t ns f → body_of ns x ≡ o
    → option_and_then (λ b. place_at f b i) o ≡ option_and_then (λ p. place_in p.0 (layouts_with (named_layout (length (named_types t ns)) (named_types t ns)) p.1) i) (option_and_then struct_fields (option_map (type_at t) o))
body_place t ns f x i None is found e = refl
body_place t ns f x i (Some b) is found e =
    let within : b < length t.types = body_inside t ns x b (recursion_from_All (NamedWithin t) ns found.within) e in
    own_at t ns f b i (get_or t.types b node.Ptr) is found (slice_get-get_or t.types b node.Ptr within)

named_place : (t : Table) (ns : List (NamedType ℕ ℕ)) (f : Found) (k x i : ℕ) → IsTable t → IsFound t ns f → x < length t.names
    → node_place f (node.Named x) k i ≡ option_and_then (λ p. place_in p.0 (layouts_with (named_layout (length (named_types t ns)) (named_types t ns)) p.1) i) (option_and_then struct_fields (type_named (named_types t ns) (name_at t x)))
named_place t ns f k x i is found lt =
    rw (named_body t ns x is (recursion_from_All (NamedWithin t) ns found.within) lt, found.bodies.each x lt) (body_place t ns f x i (body_of ns x) is found refl)

node_place_is : (t : Table) (ns : List (NamedType ℕ ℕ)) (f : Found) (k i : ℕ) (n : TypeNode) → IsTable t → IsFound t ns f → slice_get t.types k ≡ Some n
    → node_place f n k i ≡ offset_of (named_types t ns) (type_of_node (name_at t) (type_at t) n) i
node_place_is t ns f k i (node.Named x) is found known = named_place t ns f k x i is found (is.types k (node.Named x) known)
node_place_is t ns f k i (node.Int w) is found known = own t ns f k i (node.Int w) is found known (found.places.each k _ (slice_get_within t.types k _ known) known)
node_place_is t ns f k i node.Ptr is found known = own t ns f k i node.Ptr is found known (found.places.each k _ (slice_get_within t.types k _ known) known)
node_place_is t ns f k i node.Void is found known = own t ns f k i node.Void is found known (found.places.each k _ (slice_get_within t.types k _ known) known)
node_place_is t ns f k i (node.Array m of) is found known = own t ns f k i (node.Array m of) is found known (found.places.each k _ (slice_get_within t.types k _ known) known)
node_place_is t ns f k i (node.Struct packed ks) is found known = own t ns f k i (node.Struct packed ks) is found known (found.places.each k _ (slice_get_within t.types k _ known) known)

-- the place of a field, by what was found
pub place_right : (t : Table) (ns : List (NamedType ℕ ℕ)) (f : Found) (k i : ℕ) (n : TypeNode) → IsTable t → IsFound t ns f → slice_get t.types k ≡ Some n → node_place f n k i ≡ offset_of (named_types t ns) (type_at t k) i
place_right t ns f k i n is found known = rw (type_is t k n is known) (node_place_is t ns f k i n is found known)
