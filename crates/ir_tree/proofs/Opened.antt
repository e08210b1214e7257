-- What a type is a name of, by what was found, and what a number that the table lacks is taken for.
use Rattle.std.proofs.Common.{◌≡◌, ℕ, zero, suc, ◌<◌, List, [], ◌∷◌, ◌++◌, length, Some, None, slice_get, get_or, refl, sym, ap, ◌∙◌}
use Rattle.std.specs.Prelude.{option_map}
use Rattle.std.proofs.lemmas.List.Elements.{recursion_from_All}
use Rattle.ir_tree.specs.declared.items.NamedType.{NamedType}
use Rattle.ir_tree.specs.declared.nodes.TypeNode.{TypeNode}
use Rattle.ir_tree.specs.declared.nodes.TypeNode.TheVariants as node
use Rattle.ir_tree.specs.Table.{Table, IsTable}
use Rattle.ir_tree.specs.Trees.{PtrV, NullC}
use Rattle.ir_tree.specs.Naming.{meanings, name_at, type_at, type_of_node, constant_at, constant_of_node}
use Rattle.ir_tree.specs.Layouts.{opened}
use Rattle.ir_tree.specs.Filling.{named_types, NamedWithin, Found, IsFound, node_body}
use Rattle.ir_tree.proofs.Filled.{type_is}
use Rattle.ir_tree.proofs.Bodies.{named_body}

pub opened_is : (t : Table) (ns : List (NamedType ℕ ℕ)) (f : Found) (k : ℕ) (n : TypeNode) → IsTable t → IsFound t ns f → slice_get t.types k ≡ Some n
    → option_map (type_at t) (node_body f n k) ≡ opened (named_types t ns) (type_at t k)
opened_is t ns f k (node.Int w) is found known = let e = type_is t k (node.Int w) is known in rw e refl
opened_is t ns f k node.Ptr is found known = let e = type_is t k node.Ptr is known in rw e refl
opened_is t ns f k node.Void is found known = let e = type_is t k node.Void is known in rw e refl
opened_is t ns f k (node.Array m of) is found known = let e = type_is t k (node.Array m of) is known in rw e refl
opened_is t ns f k (node.Struct packed ks) is found known = let e = type_is t k (node.Struct packed ks) is known in rw e refl
opened_is t ns f k (node.Named x) is found known =
    let lt : x < length t.names = is.types k (node.Named x) known in
    rw (type_is t k (node.Named x) is known)
    (ap (option_map (type_at t)) (found.bodies.each x lt) ∙ sym (named_body t ns x is (recursion_from_All (NamedWithin t) ns found.within) lt))

past : {N V : Type 0} (step : (ℕ → V) → N → V) (none : V) (before : List V) (ns : List N) (k : ℕ) → slice_get ns k ≡ None → get_or (meanings step none before ns) k none ≡ none
unfolding meanings
past step none before [] k e = refl
past step none before (n ∷ ns) zero e = absurd cc
past {V = V} step none before (n ∷ ns) (suc k) e =
    let first : V = step (λ j. get_or before j none) n in
    past step none (before ++ first ∷ []) ns k e

-- a number of no type is taken for `ptr`, and one of no constant for `null`
pub type_past : (t : Table) (k : ℕ) → slice_get t.types k ≡ None → type_at t k ≡ PtrV
unfolding type_at
type_past t k e = past (type_of_node (name_at t)) PtrV [] t.types k e

pub constant_past : (t : Table) (k : ℕ) → slice_get t.constants k ≡ None → constant_at t k ≡ NullC
unfolding constant_at
constant_past t k e = past (constant_of_node (name_at t) (type_at t)) NullC [] t.constants k e
