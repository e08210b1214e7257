-- Where indices stand, as code has it.
use Rattle.std.specs.Prelude.{◌≡◌, ℕ, ◌<◌, length, nat_eq, if◌then◌else◌, Bool, false, List, [], ◌++◌, Option, Some, None, option_map, option_and_then, slice_get, Ok}
use Rattle.pv_base.specs.declared.name.Name.{Name}
use Rattle.ir_tree.specs.declared.instruction.Argument.{Argument}
use Rattle.ir_tree.specs.declared.nodes.TypeNode.{TypeNode}
use Rattle.ir_tree.specs.declared.nodes.TypeNode.TheVariants as node
use Rattle.ir_tree.specs.declared.nodes.ConstantNode.{ConstantNode}
use Rattle.ir_tree.specs.declared.nodes.ConstantNode.TheVariants as constant
use Rattle.ir_tree.specs.Table.{Table}
use Rattle.ir_tree.specs.Trees.{TypeV, ArrayV, StructV, ConstantV}
use Rattle.ir_tree.specs.Naming.{name_at, type_at, types_at}
use Rattle.ir_tree.specs.Shown.{shown_argument}
use Rattle.ir_text.specs.declared.named.NamedBody.{NamedBody}
use Rattle.ir_text.specs.Named.{body_in}
use Rattle.ir_text.specs.Tokens.{is_mark}
use Rattle.ir_text.specs.Reading.{Reader, ◌>>=◌, token_by}
use Rattle.ir_text.specs.Repeated.{repeated_under}
use Rattle.ir_text.specs.Trailing.{kept}
use Rattle.ir_text.specs.Types.{Known}
use Rattle.ir_instr.specs.declared.addresses.Place.{Place}
use Rattle.ir_instr.specs.declared.addresses.Place.TheVariants as place
use Rattle.ir_instr.specs.declared.addresses.Content.{Content}
use Rattle.ir_instr.specs.declared.addresses.Content.TheVariants as content
use Rattle.ir_instr.specs.Addresses.{Into, Whole, Inside, Faulty, index_into, no_index, behind_comma, still_into}

-- where an index stands, with types in place of their numbers
abbrev pub into_at : Table → Place → Into
into_at t (place.Whole k) = Whole (type_at t k)
into_at t (place.Inside k) = Inside (type_at t k)
into_at t place.Faulty = Faulty

-- its type is of the table
abbrev pub PlaceWithin : Table → Place → Type 0
PlaceWithin t (place.Whole k) = k < length t.types
PlaceWithin t (place.Inside k) = k < length t.types
PlaceWithin t place.Faulty = Unit {0}

-- the numbers of a struct's fields, and whether it is packed
abbrev pub fields_of : Option TypeNode → List ℕ
fields_of (Some (node.Struct packed ks)) = ks
fields_of other = []

abbrev pub packed_of : Option TypeNode → Bool
packed_of (Some (node.Struct packed ks)) = packed
packed_of other = false

-- what an index goes into, where the type that a type is a name of is this one
abbrev pub IsContent : Table → Table → Content → Option TypeV → Type 0
IsContent names t content.Faulty of = of ≡ None
IsContent names t (content.Elements count k) of = of ≡ Some (ArrayV count (type_at t k))
IsContent names t (content.Fields k) of = of ≡ Some (StructV (packed_of (slice_get names.types k)) (types_at t (fields_of (slice_get names.types k))))
IsContent names t content.Nothing of = (known : Known) → index_into known of ≡ token_by no_index

-- the same of a node with a number, where the type is no name
abbrev pub node_content : TypeNode → ℕ → Content
node_content (node.Array count of) k = content.Elements count of
node_content (node.Struct packed ks) k = content.Fields k
node_content other k = content.Nothing

-- the type of a node with a number, or the body that the whole text gives it
abbrev pub node_opened : Table → List (Name × NamedBody) → TypeNode → ℕ → Option ℕ
node_opened names bodies (node.Named x) k = option_and_then (λ b. b.of) (body_in bodies (name_at names x))
node_opened names bodies other k = Some k

-- its types are of the table
abbrev pub ContentWithin : Table → Content → Type 0
ContentWithin names content.Faulty = Unit {0}
ContentWithin names (content.Elements count k) = k < length names.types
ContentWithin names (content.Fields k) = k < length names.types
ContentWithin names content.Nothing = Unit {0}

-- the number of a field, by a constant's node
abbrev pub node_field : ConstantNode → Option ℕ
node_field (constant.Integer n) = if nat_eq n.width 32 then Some n.bits else None
node_field constant.Zero = Some 0
node_field other = None

-- the same where no index may follow
abbrev pub some_into_at : Table → Option Place → Option Into
some_into_at t of = option_map (into_at t) of

abbrev pub shown_further : Table → Option (Argument ℕ ℕ ℕ × Place) → Option (Argument Name TypeV ConstantV)
shown_further t of = option_map (λ x. shown_argument t x.0) of

-- where the next index stands, by what was read
abbrev pub place_of : Option (Argument ℕ ℕ ℕ × Place) → Option Place
place_of of = option_map (λ x. x.1) of

-- the indices behind these, and what is passed over behind them
abbrev pub further_at : Known → Into → List (Argument Name TypeV ConstantV) → Reader (List (Argument Name TypeV ConstantV))
further_at known into front ts = repeated_under (is_mark 44) (behind_comma known) (still_into known) (Some into) ts >>= λ all. Ok (front ++ kept all.0, all.1)
