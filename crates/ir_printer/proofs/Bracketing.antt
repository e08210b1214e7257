-- Types and constants in brackets, a step at a time.
use Rattle.std.proofs.Common.{◌≡◌, ℕ, zero, suc, ◌+◌, ◌<◌, ◌≤◌, Bool, true, false, List, [], ◌∷◌, ◌++◌, drop, length, Some, slice_get, append_assoc, add-one, refl, sym, ap, ◌∙◌, arith}
use Rattle.std.specs.Prelude.{nat_lt, codes, pos}
use Rattle.std.proofs.lemmas.List.{append-nil, drop_all}
use Rattle.std.proofs.lemmas.Bool.{lt-ltb}
use Rattle.ir_tree.specs.declared.nodes.TypeNode.TheVariants as node
use Rattle.ir_tree.specs.declared.nodes.ConstantNode.TheVariants as constant
use Rattle.ir_tree.specs.declared.nodes.Element.{Element}
use Rattle.ir_tree.specs.Table.{Table}
use Rattle.ir_tree.specs.Trees.{ArrayV, StructV, ConstantV, TextC, ArrayC, StructC, AddressC}
use Rattle.ir_tree.specs.Naming.{type_at, types_by, elements_by}
use Rattle.ir_printer.specs.declared.nested.Show.{Show}
use Rattle.ir_printer.specs.declared.nested.Show.TheVariants as show
use Rattle.ir_printer.specs.Pieces.{Piece, quoted, Blank, Word, Mark, Number, bytes_of, led, within}
use Rattle.ir_printer.specs.Operands.{address_head, pointer_lead, opening, closing, type_pieces, types_pieces, constant_pieces, elements_pieces}
use Rattle.ir_printer.specs.Nesting.{lead, constant_below, fields_rest, elements_rest, show_pieces, Writes}
use Rattle.ir_printer.proofs.Spelled.{bytes_append}
use Rattle.ir_printer.proofs.Stacks.{writes_one, writes_two, writes_four}

-- ---- lists in brackets

drop_next : {X : Type 0} (xs : List X) (i : ℕ) (x : X) → slice_get xs i ≡ Some x → drop i xs ≡ x ∷ drop (suc i) xs
drop_next [] i x e = absurd cc
drop_next (y ∷ ys) zero x e = let same : y ≡ x = cc in ap (λ z. z ∷ ys) same
drop_next (y ∷ ys) (suc i) x e = drop_next ys i x e

later : (n : ℕ) → nat_lt 0 (n + 1) ≡ true
later n = let lt : 0 < n + 1 = omega arith in lt-ltb 0 (n + 1) lt

within_next : (b : Bool) (p : List Piece) (ps : List (List Piece)) → within b (p ∷ ps) ≡ lead b ++ (p ++ within true ps)
within_next false p ps = refl
within_next true p ps = refl

opening_some : (packed : Bool) → 0 < length (bytes_of (opening packed))
opening_some false = omega arith
opening_some true = omega arith

lead_some : (b : Bool) → 0 < length (bytes_of (lead b))
lead_some false = omega arith
lead_some true = omega arith

-- ---- types

pub array_begun : (t : Table) (old new : List ℕ) (before one after : List Show) (n of : ℕ) → new ≡ old ++ bytes_of (Mark 91 ∷ Number (pos n) ∷ Blank ∷ Word (codes "x") ∷ Blank ∷ [])
    → one ≡ before ++ show.Bracket ∷ [] → after ≡ one ++ show.Type of ∷ [] → Writes t old new before after (type_pieces (ArrayV n (type_at t of)))
unfolding type_pieces show_pieces
array_begun t old new before one after n of e p q =
    writes_two t old new _ before one after show.Bracket (show.Type of) _ e p q (omega arith) (simp (bytes_append, append_assoc, append-nil))

pub struct_begun : (t : Table) (old new : List ℕ) (before after : List Show) (k : ℕ) (packed : Bool) (ks : List ℕ) → slice_get t.types k ≡ Some (node.Struct packed ks) → new ≡ old ++ bytes_of (opening packed)
    → after ≡ before ++ show.Fields k 0 ∷ [] → Writes t old new before after (type_pieces (StructV packed (types_by (type_at t) ks)))
unfolding type_pieces show_pieces
struct_begun t old new before after k packed ks known e p =
    writes_one t old new _ before after (show.Fields k 0) _ e p (opening_some packed) (rw known (simp (bytes_append, append_assoc, append-nil)))

pub field_begun : (t : Table) (old new : List ℕ) (before one after : List Show) (k from x : ℕ) → new ≡ old ++ bytes_of (lead (nat_lt 0 from)) → one ≡ before ++ show.Fields k (from + 1) ∷ []
    → after ≡ one ++ show.Type x ∷ [] → Writes t old new before after (lead (nat_lt 0 from) ++ type_pieces (type_at t x) ++ fields_rest t (slice_get t.types k) (from + 1))
unfolding show_pieces
field_begun t old new before one after k from x e p q =
    writes_two t old new _ before one after (show.Fields k (from + 1)) (show.Type x) _ e p q (lead_some (nat_lt 0 from)) (simp (bytes_append, append_assoc, append-nil))

pub fields_next : (t : Table) (k from : ℕ) (packed : Bool) (ks : List ℕ) (x : ℕ) → slice_get t.types k ≡ Some (node.Struct packed ks) → slice_get ks from ≡ Some x
    → lead (nat_lt 0 from) ++ type_pieces (type_at t x) ++ fields_rest t (slice_get t.types k) (from + 1) ≡ fields_rest t (slice_get t.types k) from
unfolding types_pieces
fields_next t k from packed ks x known at =
    let rest = types_pieces (types_by (type_at t) (drop (suc from) ks)) in
    let more : types_pieces (types_by (type_at t) (drop from ks)) ≡ type_pieces (type_at t x) ∷ rest = rw (drop_next ks from x at) refl in
    rw (known, later from, add-one, more, within_next) (simp append_assoc)

pub fields_end : (t : Table) (k from : ℕ) (packed : Bool) (ks : List ℕ) → slice_get t.types k ≡ Some (node.Struct packed ks) → length ks ≤ from
    → within (nat_lt 0 from) [] ++ closing packed ≡ fields_rest t (slice_get t.types k) from
unfolding types_pieces
fields_end t k from packed ks known past = rw (known, drop_all from ks past) refl

-- ---- constants

pub text_written : (old some : List ℕ) (bytes : List ℕ) → some ≡ old ++ codes "c" → some ++ quoted bytes ≡ old ++ bytes_of (constant_pieces (TextC bytes))
unfolding constant_pieces
text_written old some bytes e = rw e (simp (append_assoc, append-nil))

pub array_constant_begun : (t : Table) (old new : List ℕ) (before after : List Show) (k : ℕ) (es : List Element) → slice_get t.constants k ≡ Some (constant.Array es) → new ≡ old ++ codes "["
    → after ≡ before ++ show.Elements k 0 ∷ [] → Writes t old new before after (constant_pieces (ArrayC (elements_by (type_at t) (constant_below t k) es)))
unfolding constant_pieces show_pieces
array_constant_begun t old new before after k es known e p =
    writes_one t old new _ before after (show.Elements k 0) _ e p (omega arith) (rw known (simp (bytes_append, append_assoc, append-nil)))

pub struct_constant_begun : (t : Table) (old new : List ℕ) (before after : List Show) (k : ℕ) (packed : Bool) (es : List Element) → slice_get t.constants k ≡ Some (constant.Struct packed es)
    → new ≡ old ++ bytes_of (opening packed) → after ≡ before ++ show.Elements k 0 ∷ [] → Writes t old new before after (constant_pieces (StructC packed (elements_by (type_at t) (constant_below t k) es)))
unfolding constant_pieces show_pieces
struct_constant_begun t old new before after k packed es known e p =
    writes_one t old new _ before after (show.Elements k 0) _ e p (opening_some packed) (rw known (simp (bytes_append, append_assoc, append-nil)))

five : (a b c d e : List Piece) → bytes_of a ++ (bytes_of b ++ (bytes_of c ++ (bytes_of d ++ (bytes_of e ++ [])))) ≡ bytes_of (a ++ b ++ c ++ d ++ e)
five a b c d e = simp (bytes_append, append_assoc, append-nil)

pub address_begun : (t : Table) (old new : List ℕ) (before one two three after : List Show) (k of : ℕ) (base : ConstantV) (s : Show) → show_pieces t s ≡ constant_pieces base → new ≡ old ++ codes "getelementptr ("
    → one ≡ before ++ show.Elements k 0 ∷ [] → two ≡ one ++ s ∷ [] → three ≡ two ++ show.Base ∷ [] → after ≡ three ++ show.Type of ∷ []
    → Writes t old new before after (address_head ++ type_pieces (type_at t of) ++ pointer_lead ++ constant_pieces base ++ elements_rest t k (slice_get t.constants k) 0)
unfolding show_pieces
address_begun t old new before one two three after k of base s is e p q r u =
    writes_four t old new (codes "getelementptr (") before one two three after (show.Elements k 0) s show.Base (show.Type of) _ e p q r u (omega arith)
    (let rest : List ℕ = bytes_of (show_pieces t (show.Elements k 0)) in
    ap (λ (bs : List ℕ). codes "getelementptr (" ++ (bytes_of (show_pieces t (show.Type of)) ++ (bytes_of (show_pieces t show.Base) ++ (bs ++ (rest ++ []))))) (ap bytes_of is)
    ∙ five address_head (type_pieces (type_at t of)) pointer_lead (constant_pieces base) (elements_rest t k (slice_get t.constants k) 0))

pub element_begun : (t : Table) (old new : List ℕ) (before one two three after : List Show) (b : Bool) (k from of : ℕ) (value : ConstantV) (s : Show) → show_pieces t s ≡ constant_pieces value → new ≡ old ++ bytes_of (lead b)
    → one ≡ before ++ show.Elements k (from + 1) ∷ [] → two ≡ one ++ s ∷ [] → three ≡ two ++ show.Space ∷ [] → after ≡ three ++ show.Type of ∷ []
    → Writes t old new before after (lead b ++ (type_pieces (type_at t of) ++ Blank ∷ constant_pieces value) ++ elements_rest t k (slice_get t.constants k) (from + 1))
unfolding show_pieces
element_begun t old new before one two three after b k from of value s is e p q r u =
    writes_four t old new (bytes_of (lead b)) before one two three after (show.Elements k (from + 1)) s show.Space (show.Type of) _ e p q r u (lead_some b) (rw is (simp (bytes_append, append_assoc, append-nil)))

elements_more : (t : Table) (k from : ℕ) (es : List Element) (x : Element) → slice_get es from ≡ Some x
    → elements_pieces (elements_by (type_at t) (constant_below t k) (drop from es))
    ≡ (type_pieces (type_at t x.of) ++ Blank ∷ constant_pieces (constant_below t k x.value)) ∷ elements_pieces (elements_by (type_at t) (constant_below t k) (drop (suc from) es))
unfolding elements_pieces
elements_more t k from es x at = rw (drop_next es from x at) refl

pub array_next : (t : Table) (k from : ℕ) (es : List Element) (x : Element) → slice_get t.constants k ≡ Some (constant.Array es) → slice_get es from ≡ Some x
    → lead (nat_lt 0 from) ++ (type_pieces (type_at t x.of) ++ Blank ∷ constant_pieces (constant_below t k x.value)) ++ elements_rest t k (slice_get t.constants k) (from + 1) ≡ elements_rest t k (slice_get t.constants k) from
array_next t k from es x known at = rw (known, later from, add-one, elements_more t k from es x at, within_next) (simp append_assoc)

pub struct_next : (t : Table) (k from : ℕ) (packed : Bool) (es : List Element) (x : Element) → slice_get t.constants k ≡ Some (constant.Struct packed es) → slice_get es from ≡ Some x
    → lead (nat_lt 0 from) ++ (type_pieces (type_at t x.of) ++ Blank ∷ constant_pieces (constant_below t k x.value)) ++ elements_rest t k (slice_get t.constants k) (from + 1) ≡ elements_rest t k (slice_get t.constants k) from
struct_next t k from packed es x known at = rw (known, later from, add-one, elements_more t k from es x at, within_next) (simp append_assoc)

pub index_next : (t : Table) (k from of base : ℕ) (es : List Element) (x : Element) → slice_get t.constants k ≡ Some (constant.Address of base es) → slice_get es from ≡ Some x
    → lead true ++ (type_pieces (type_at t x.of) ++ Blank ∷ constant_pieces (constant_below t k x.value)) ++ elements_rest t k (slice_get t.constants k) (from + 1) ≡ elements_rest t k (slice_get t.constants k) from
index_next t k from of base es x known at =
    let item : List Piece = type_pieces (type_at t x.of) ++ Blank ∷ constant_pieces (constant_below t k x.value) in
    let others = elements_pieces (elements_by (type_at t) (constant_below t k) (drop (suc from) es)) in
    let after : elements_rest t k (slice_get t.constants k) (from + 1) ≡ led others ++ Mark 41 ∷ [] = rw (known, add-one) refl in
    let before : elements_rest t k (slice_get t.constants k) from ≡ led (item ∷ others) ++ Mark 41 ∷ [] = rw (known, elements_more t k from es x at) refl in
    ap (λ (ps : List Piece). lead true ++ item ++ ps) after ∙ (simp append_assoc) ∙ sym before

elements_none : (t : Table) (k from : ℕ) (es : List Element) → length es ≤ from → elements_pieces (elements_by (type_at t) (constant_below t k) (drop from es)) ≡ []
unfolding elements_pieces
elements_none t k from es past = rw (drop_all from es past) refl

pub array_end : (t : Table) (k from : ℕ) (es : List Element) → slice_get t.constants k ≡ Some (constant.Array es) → length es ≤ from → within (nat_lt 0 from) [] ++ Mark 93 ∷ [] ≡ elements_rest t k (slice_get t.constants k) from
array_end t k from es known past = rw (known, elements_none t k from es past) refl

pub struct_end : (t : Table) (k from : ℕ) (packed : Bool) (es : List Element) → slice_get t.constants k ≡ Some (constant.Struct packed es) → length es ≤ from → within (nat_lt 0 from) [] ++ closing packed ≡ elements_rest t k (slice_get t.constants k) from
struct_end t k from packed es known past = rw (known, elements_none t k from es past) refl

pub index_end : (t : Table) (k from of base : ℕ) (es : List Element) → slice_get t.constants k ≡ Some (constant.Address of base es) → length es ≤ from → Mark 41 ∷ [] ≡ elements_rest t k (slice_get t.constants k) from
index_end t k from of base es known past = rw (known, elements_none t k from es past) refl

pub address_is : (t : Table) (k of base : ℕ) (es : List Element) → slice_get t.constants k ≡ Some (constant.Address of base es)
    → address_head ++ type_pieces (type_at t of) ++ pointer_lead ++ constant_pieces (constant_below t k base) ++ elements_rest t k (slice_get t.constants k) 0
    ≡ constant_pieces (AddressC (type_at t of) (constant_below t k base) (elements_by (type_at t) (constant_below t k) es))
unfolding constant_pieces
address_is t k of base es known =
    let rest : elements_rest t k (slice_get t.constants k) 0 ≡ led (elements_pieces (elements_by (type_at t) (constant_below t k) es)) ++ Mark 41 ∷ [] = rw known refl in
    ap (λ (ps : List Piece). address_head ++ type_pieces (type_at t of) ++ pointer_lead ++ constant_pieces (constant_below t k base) ++ ps) rest
