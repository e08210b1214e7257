-- The constants of numbers, by their nodes.
use Rattle.std.proofs.Common.{◌≡◌, ℕ, zero, suc, ◌<◌, ◌≤◌, true, false, List, [], ◌∷◌, length, take, Option, Some, None, slice_get, get_or, refl, sym, ap, ◌∙◌, arith, inl, inr}
use Rattle.std.specs.Prelude.{nat_lt, nat_eq, ◌&&◌}
use Rattle.std.specs.List.{list_all}
use Rattle.std.proofs.lemmas.Bool.{lt-ltb, le-ltb, cases_lt}
use Rattle.std.proofs.lemmas.List.{get_or-take, length-take}
use Rattle.std.proofs.Math.ListN.{get_or-eq_default}
use Rattle.ir_tree.specs.declared.nodes.ConstantNode.{ConstantNode}
use Rattle.ir_tree.specs.declared.nodes.ConstantNode.TheVariants as constant
use Rattle.ir_tree.specs.declared.nodes.Element.{Element}
use Rattle.ir_tree.specs.Table.{Table}
use Rattle.ir_tree.specs.Trees.{TypeV, ArrayV, MoreV, ConstantV, NullC, ArrayC, StructC}
use Rattle.ir_tree.specs.Naming.{meanings, name_at, type_at, constant_at, constant_of_node, elements_by, types_at}
use Rattle.ir_tree.proofs.Showing.{meaning_from}
use Rattle.ir_rules.specs.Same.{same_type}
use Rattle.ir_rules.specs.Constants.{written_types, type_count, are_all, elements_fit}
use Rattle.ir_rules.specs.Heads.{constant_below, node_constant, element_types}
use Rattle.ir_rules.proofs.TypeLemmas.{past}

-- the same lookups give the same constants
elements_same : (type : ℕ → TypeV) (at to : ℕ → ConstantV) → ((i : ℕ) → at i ≡ to i) → (es : List Element) → elements_by type at es ≡ elements_by type to es
elements_same type at to h [] = refl
elements_same type at to h (e ∷ es) =
    let one : at e.value ≡ to e.value = h e.value in
    let rest : elements_by type at es ≡ elements_by type to es = elements_same type at to h es in
    cc

node_same : (t : Table) (at to : ℕ → ConstantV) → ((i : ℕ) → at i ≡ to i) → (n : ConstantNode) → constant_of_node (name_at t) (type_at t) at n ≡ constant_of_node (name_at t) (type_at t) to n
node_same t at to h (constant.Integer n) = refl
node_same t at to h constant.Null = refl
node_same t at to h constant.Zero = refl
node_same t at to h (constant.Text bytes) = refl
node_same t at to h (constant.Array es) = ap ArrayC (elements_same (type_at t) at to h es)
node_same t at to h (constant.Struct packed es) = ap (StructC packed) (elements_same (type_at t) at to h es)
node_same t at to h (constant.Name k) = refl
node_same t at to h (constant.Address of base es) =
    let one : at base ≡ to base = h base in
    let rest : elements_by (type_at t) at es ≡ elements_by (type_at t) to es = elements_same (type_at t) at to h es in
    cc

pub below_is : (t : Table) (k i : ℕ) → i < k → constant_below t k i ≡ constant_at t i
below_is t k i lt = let h : nat_lt i k ≡ true = lt-ltb i k lt in rw h refl

pub below_past : (t : Table) (k i : ℕ) → k ≤ i → constant_below t k i ≡ NullC
below_past t k i le = let h : nat_lt i k ≡ false = le-ltb i k le in rw h refl

taken : (t : Table) (all : List ConstantV) (k i : ℕ) → ((j : ℕ) → constant_at t j ≡ get_or all j NullC) → get_or (take k all) i NullC ≡ constant_below t k i
taken t all k i is =
    elim (cases_lt i k) [
      | inl lt ↦ get_or-take k all i NullC lt ∙ sym (is i) ∙ sym (below_is t k i lt)
      | inr ge ↦ get_or-eq_default (take k all) NullC (omega (arith, length-take k all)) ∙ sym (below_past t k i ge)
    ]

pub constant_none : (t : Table) (k : ℕ) → slice_get t.constants k ≡ None → constant_at t k ≡ NullC
unfolding constant_at
constant_none t k e = past _ _ [] t.constants k e

pub constant_some : (t : Table) (k : ℕ) (n : ConstantNode) → slice_get t.constants k ≡ Some n → constant_at t k ≡ constant_of_node (name_at t) (type_at t) (constant_below t k) n
unfolding constant_at
constant_some t k n e =
    let all = meanings (constant_of_node (name_at t) (type_at t)) NullC [] t.constants in
    meaning_from (constant_of_node (name_at t) (type_at t)) NullC [] t.constants k n e
    ∙ node_same t (λ j. get_or (take k all) j NullC) (constant_below t k) (λ i. taken t all k i (λ j. refl)) n

pub constant_is : (t : Table) (k : ℕ) (o : Option ConstantNode) → o ≡ slice_get t.constants k → constant_at t k ≡ node_constant t k o
constant_is t k None e = constant_none t k (sym e)
constant_is t k (Some n) e = constant_some t k n (sym e)

-- ---- the types that are written before elements

pub written_is : (t : Table) (at : ℕ → ConstantV) (es : List Element) → written_types (elements_by (type_at t) at es) ≡ types_at t (element_types es)
unfolding written_types
written_is t at [] = refl
written_is t at (e ∷ es) = ap (MoreV (type_at t e.of)) (written_is t at es)

count_is : (t : Table) (es : List Element) → type_count (types_at t (element_types es)) ≡ length es
unfolding type_count
count_is t [] = refl
count_is t (e ∷ es) = ap suc (count_is t es)

all_are : (t : Table) (type : TypeV) (es : List Element) → are_all type (types_at t (element_types es)) ≡ list_all (λ e. same_type type (type_at t e.of)) es
unfolding are_all
all_are t type [] = refl
all_are t type (e ∷ es) = ap (λ b. same_type type (type_at t e.of) && b) (all_are t type es)

pub array_fits : (t : Table) (n : ℕ) (type : TypeV) (es : List Element) → elements_fit (ArrayV n type) (types_at t (element_types es)) ≡ (nat_eq n (length es) && list_all (λ e. same_type type (type_at t e.of)) es)
array_fits t n type es = rw (count_is t es, all_are t type es) refl

pub written_length : (es : List Element) → length (element_types es) ≡ length es
written_length [] = refl
written_length (e ∷ es) = ap suc (written_length es)

pub written_at : (es : List Element) (i : ℕ) (d : Element) → i < length es → get_or (element_types es) i 0 ≡ (get_or es i d).of
written_at [] i d lt = absurd (omega arith)
written_at (e ∷ es) zero d lt = refl
written_at (e ∷ es) (suc i) d lt = written_at es i d (omega arith)
