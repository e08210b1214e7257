-- The types and constants of numbers, from what stands in them.
use Rattle.std.proofs.Common.{◌≡◌, ℕ, zero, suc, ◌≤◌, Bool, true, false, List, [], ◌∷◌, ◌++◌, take, Some, None, slice_get, get_or, refl, ap, ◌∙◌, arith}
use Rattle.std.specs.Prelude.{nat_lt, if◌then◌else◌}
use Rattle.std.proofs.lemmas.List.{get_or-take, get_or_past, length-take}
use mathlib.Core.Path.{fun_ext}
use borrow.Author.Tests.{ltb-true, ltb-false}
use Rattle.ir_tree.specs.declared.nodes.ConstantNode.{ConstantNode}
use Rattle.ir_tree.specs.Table.{Table}
use Rattle.ir_tree.specs.Trees.{PtrV, ConstantV, NullC}
use Rattle.ir_tree.specs.Naming.{meanings, name_at, type_at, type_of_node, constant_at, constant_of_node}
use Rattle.ir_tree.proofs.Showing.{meaning_from}
use Rattle.ir_printer.specs.Nesting.{constant_below}

meanings_past : {N V : Type 0} (step : (ℕ → V) → N → V) (none : V) (before : List V) (ns : List N) (k : ℕ) → slice_get ns k ≡ None → get_or (meanings step none before ns) k none ≡ none
unfolding meanings
meanings_past step none before [] k e = refl
meanings_past step none before (x ∷ rest) zero e = absurd cc
meanings_past {V = V} step none before (x ∷ rest) (suc k) e = meanings_past step none (before ++ step (λ j. get_or before j none) x ∷ []) rest k e

-- a number without a type stands for `ptr`, and one without a constant for `null`
pub type_past : (t : Table) (k : ℕ) → slice_get t.types k ≡ None → type_at t k ≡ PtrV
unfolding type_at
type_past t k e = meanings_past (type_of_node (name_at t)) PtrV [] t.types k e

pub constant_past : (t : Table) (k : ℕ) → slice_get t.constants k ≡ None → constant_at t k ≡ NullC
unfolding constant_at
constant_past t k e = meanings_past (constant_of_node (name_at t) (type_at t)) NullC [] t.constants k e

below_by : {V : Type 0} (all : List V) (none : V) (k j : ℕ) (b : Bool) → nat_lt j k ≡ b → get_or (take k all) j none ≡ (if b then get_or all j none else none)
below_by all none k j true e = get_or-take k all j none (ltb-true j k e)
below_by all none k j false e = get_or_past (take k all) j none (let past : k ≤ j = ltb-false j k e in omega (arith, length-take k all))

-- the constant of a number, from those of smaller numbers
pub constant_is : (t : Table) (k : ℕ) (n : ConstantNode) → slice_get t.constants k ≡ Some n → constant_at t k ≡ constant_of_node (name_at t) (type_at t) (constant_below t k) n
unfolding constant_at
constant_is t k n e =
    let all = meanings (constant_of_node (name_at t) (type_at t)) NullC [] t.constants in
    let same : (λ (j : ℕ). get_or (take k all) j NullC) ≡ constant_below t k = fun_ext (λ j. below_by all NullC k j (nat_lt j k) refl) in
    meaning_from (constant_of_node (name_at t) (type_at t)) NullC [] t.constants k n e ∙ ap (λ (at : ℕ → ConstantV). constant_of_node (name_at t) (type_at t) at n) same
