-- The types of numbers, by their nodes.
use Rattle.std.proofs.Common.{◌≡◌, ℕ, zero, suc, List, [], ◌∷◌, ◌++◌, Option, Some, None, slice_get, get_or, refl, sym, ap, ◌∙◌}
use Rattle.std.specs.Borrow.{Bor}
use Rattle.std.specs.Option.{option_copied}
use Rattle.std.proofs.lemmas.Option.{get_or_from_slice_get}
use Rattle.pv_base.specs.declared.name.Name.{Name}
use Rattle.pv_base.specs.declared.name.Name.TheVariants.{Numbered}
use Rattle.ir_tree.specs.declared.nodes.TypeNode.{TypeNode}
use Rattle.ir_tree.specs.Table.{Table, IsTable}
use Rattle.ir_tree.specs.Trees.{TypeV, PtrV}
use Rattle.ir_tree.specs.Naming.{meanings, name_at, type_at, type_of_node}
use Rattle.ir_rules.specs.Heads.{name_or}
use Rattle.ir_tree.proofs.Filled.{type_is}

-- a type by what its node is, if it has one
abbrev pub shape : Table → Option TypeNode → TypeV
shape t None = PtrV
shape t (Some n) = type_of_node (name_at t) (type_at t) n

pub past : {N V : Type 0} (step : (ℕ → V) → N → V) (none : V) (before : List V) (ns : List N) (k : ℕ) → slice_get ns k ≡ None → get_or (meanings step none before ns) k none ≡ none
unfolding meanings
past step none before [] k e = refl
past step none before (n ∷ ns) zero e = absurd cc
past {V = V} step none before (n ∷ ns) (suc k) e = let first : V = step (λ j. get_or before j none) n in past step none (before ++ first ∷ []) ns k e

pub type_none : (t : Table) (k : ℕ) → slice_get t.types k ≡ None → type_at t k ≡ PtrV
unfolding type_at
type_none t k e = past _ _ [] t.types k e

pub type_known : (t : Table) (k : ℕ) (o : Option TypeNode) → IsTable t → slice_get t.types k ≡ o → type_at t k ≡ shape t o
type_known t k None is e = type_none t k e
type_known t k (Some n) is e = type_is t k n is e

pub type_shape : (t : Table) (k : ℕ) → IsTable t → type_at t k ≡ shape t (slice_get t.types k)
type_shape t k is = type_known t k (slice_get t.types k) is refl

pub type_read : (t : Table) (k : ℕ) (x n : TypeNode) → IsTable t → Some x ≡ slice_get t.types k → x ≡ n → type_at t k ≡ type_of_node (name_at t) (type_at t) n
type_read t k x n is e same = type_is t k n is (sym e ∙ ap Some same)

get_or_past : {X : Type 0} (xs : List X) (k : ℕ) (d : X) → slice_get xs k ≡ None → get_or xs k d ≡ d
get_or_past [] k d e = refl
get_or_past (x ∷ xs) zero d e = absurd cc
get_or_past (x ∷ xs) (suc k) d e = get_or_past xs k d e

pub name_read : (t : Table) (k : ℕ) (r : Option (Bor Name)) → option_copied r ≡ slice_get t.names k → name_at t k ≡ name_or r
name_read t k None e = get_or_past t.names k (Numbered 0) (sym e)
name_read t k (Some x) e = get_or_from_slice_get t.names k x.now (Numbered 0) (sym e)
