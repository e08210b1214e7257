-- What is still to be written of nested types and constants.
use Rattle.std.specs.Prelude.{◌≡◌, ◌+◌, ◌*◌, ◌≤◌, ℕ, Bool, true, false, nat_lt, if◌then◌else◌, List, [], ◌∷◌, ◌++◌, Option, Some, slice_get, length, drop}
use Rattle.ir_tree.specs.declared.nodes.TypeNode.{TypeNode}
use Rattle.ir_tree.specs.declared.nodes.TypeNode.TheVariants as node
use Rattle.ir_tree.specs.declared.nodes.ConstantNode.{ConstantNode}
use Rattle.ir_tree.specs.declared.nodes.ConstantNode.TheVariants as constant
use Rattle.ir_tree.specs.Table.{Table}
use Rattle.ir_tree.specs.Trees.{ConstantV, NullC}
use Rattle.ir_tree.specs.Naming.{type_at, types_by, constant_at, elements_by}
use Rattle.ir_printer.specs.declared.nested.Show.{Show}
use Rattle.ir_printer.specs.declared.nested.Show.TheVariants as show
use Rattle.ir_printer.specs.Pieces.{Piece, Blank, Mark, bytes_of, comma, led, within}
use Rattle.ir_printer.specs.Operands.{closing, pointer_lead, type_pieces, types_pieces, constant_pieces, elements_pieces}

-- a constant that stands in the constant of a number, and so has a smaller one
abbrev pub constant_below : Table → ℕ → ℕ → ConstantV
constant_below t k j = if nat_lt j k then constant_at t j else NullC

-- what stands in brackets before an item, and whether another item stands before it
abbrev pub lead : Bool → List Piece
lead false = Blank ∷ []
lead true = comma

-- the fields of a struct from a place on, and its closing bracket
abbrev pub fields_rest : Table → Option TypeNode → ℕ → List Piece
fields_rest t (Some (node.Struct packed ks)) from = within (nat_lt 0 from) (types_pieces (types_by (type_at t) (drop from ks))) ++ closing packed
fields_rest t n from = []

-- the elements of the constant of a number from a place on, and its closing bracket
abbrev pub elements_rest : Table → ℕ → Option ConstantNode → ℕ → List Piece
elements_rest t k (Some (constant.Array es)) from = within (nat_lt 0 from) (elements_pieces (elements_by (type_at t) (constant_below t k) (drop from es))) ++ Mark 93 ∷ []
elements_rest t k (Some (constant.Struct packed es)) from = within (nat_lt 0 from) (elements_pieces (elements_by (type_at t) (constant_below t k) (drop from es))) ++ closing packed
elements_rest t k (Some (constant.Address of base es)) from = led (elements_pieces (elements_by (type_at t) (constant_below t k) (drop from es))) ++ Mark 41 ∷ []
elements_rest t k n from = []

-- the pieces of one item
unfoldable pub show_pieces : Table → Show → List Piece
show_pieces t (show.Type k) = type_pieces (type_at t k)
show_pieces t (show.Constant k) = constant_pieces (constant_at t k)
show_pieces t show.Null = constant_pieces NullC
show_pieces t (show.Fields k from) = fields_rest t (slice_get t.types k) from
show_pieces t (show.Elements k from) = elements_rest t k (slice_get t.constants k) from
show_pieces t show.Bracket = Mark 93 ∷ []
show_pieces t show.Space = Blank ∷ []
show_pieces t show.Base = pointer_lead

-- the bytes of all items of a stack, from its top on
unfoldable pub stacked : Table → List Show → List ℕ
stacked t [] = []
stacked t (s ∷ rest) = stacked t rest ++ bytes_of (show_pieces t s)

-- some of these pieces are written, and what is left of them lies on the stack, which grows by few items for what is written
pub record Writes (t : Table) (old new : List ℕ) (before after : List Show) (pieces : List Piece) : Type 0 where
  pub text : new ++ stacked t after ≡ old ++ (bytes_of pieces ++ stacked t before)
  pub bound : length after + 4 * length old ≤ length before + 4 * length new
