-- The numbers that stand as names of a function are no greater than the count of what it defines.
use Rattle.std.proofs.Common.{◌≡◌, ℕ, ◌+◌, ◌≤◌, length, Bool, true, false, List, [], ◌∷◌, Option, Some, None, refl, sym, ◌∙◌, inl, inr, arith}
use Rattle.std.specs.Prelude.{fold, nat_lt, sum_by}
use Rattle.std.specs.List.{list_all}
use Rattle.std.proofs.lemmas.Bool.{cases_Bool, or_left, or_right}
use Rattle.std.proofs.lemmas.Bool.Decides.{nat_tests}
use Rattle.std.proofs.lemmas.List.Sums.{sum_by-cons}
use Rattle.pv_base.specs.declared.name.Name.{Name}
use Rattle.pv_base.specs.declared.name.Name.TheVariants.{Named, Numbered}
use Rattle.ir_tree.specs.declared.items.Param.{Param}
use Rattle.ir_tree.specs.Table.{same_name, name_among}
use Rattle.ir_tree.specs.Trees.{TypeV}
use Rattle.ir_tree.proofs.Bodies.{same_self}
use Rattle.ir_instr.specs.Results.{result_of}
use Rattle.ir_grammar.specs.Scopes.{Scope, counted, defining, defining_some, after_instruction, after_block, after_name, after_param}
use Rattle.ir_rules.specs.Spots.{instruction_count}
use Rattle.ir_rules.specs.Seen.{InstructionV, BlockV}
use Rattle.read_laws.proofs.Scopes.{Fresh}

-- ---- how far the counter comes

counted_once : (next : ℕ) (name : Name) → counted next name ≤ next + 1
counted_once next (Named text) = omega arith
counted_once next (Numbered n) = omega arith

some_once : (scope : Scope) (o : Option Name) → (defining_some scope o).next ≤ scope.next + 1
some_once scope None = omega arith
some_once scope (Some name) = counted_once scope.next name

name_once : (scope : Scope) (o : Option Name) → (after_name scope o).next ≤ scope.next + 1
name_once scope None = omega arith
name_once scope (Some name) = counted_once scope.next name

pub params_next : (scope : Scope) (params : List (Param Name TypeV)) → (fold after_param scope params).next ≤ scope.next + length params
params_next scope [] = omega arith
params_next scope (p ∷ params) =
    let one = name_once scope p.name in
    let others = params_next (after_param scope p) params in
    omega arith

steps_next : (scope : Scope) (all : List InstructionV) → (fold after_instruction scope all).next ≤ scope.next + length all
steps_next scope [] = omega arith
steps_next scope (i ∷ all) =
    let one = some_once scope (result_of i) in
    let others = steps_next (after_instruction scope i) all in
    omega arith

-- a block's label, or the brace before the first, and its instructions
abbrev pub block_size : BlockV → ℕ
block_size b = 1 + length b.instructions

pub sizes_are : (blocks : List BlockV) → sum_by block_size blocks ≡ length blocks + instruction_count blocks
sizes_are [] = refl
sizes_are (b ∷ blocks) = let others = sizes_are blocks in omega (arith, sum_by-cons block_size b blocks, sum_by-cons (λ (x : BlockV). length x.instructions) b blocks)

pub blocks_next : (scope : Scope) (blocks : List BlockV) → (fold after_block scope blocks).next ≤ scope.next + sum_by block_size blocks
blocks_next scope [] = omega arith
blocks_next scope (b ∷ blocks) =
    let label = counted_once scope.next b.label in
    let one = steps_next (defining scope b.label) b.instructions in
    let others = blocks_next (after_block scope b) blocks in
    omega (arith, sum_by-cons block_size b blocks)

-- ---- names below it

abbrev pub below : ℕ → Name → Bool
below n (Named text) = true
below n (Numbered m) = nat_lt m n

one_below : (n : ℕ) (name : Name) (all : List Name) → name_among name all ≡ true → ((m : ℕ) → n ≤ m → name_among (Numbered m) all ≡ false) → below n name ≡ true
one_below n (Named text) all h g = refl
one_below n (Numbered m) all h g = elim (cases_Bool (nat_lt m n)) [
  | inl e ↦ e
  | inr e ↦ absurd (let le : n ≤ m = grind (arith, nat_tests) in let clash : true ≡ false = sym h ∙ g m le in cc)
]

each_below : (n : ℕ) (names all : List Name) → ((name : Name) → name_among name names ≡ true → name_among name all ≡ true) → ((m : ℕ) → n ≤ m → name_among (Numbered m) all ≡ false) → list_all (below n) names ≡ true
each_below n [] all inside g = refl
each_below n (name ∷ names) all inside g =
    let here = one_below n name all (inside name (or_left (same_name name name) (name_among name names) (same_self name))) g in
    let others = each_below n names all (λ x h. inside x (or_right (same_name x name) (name_among x names) h)) g in
    rw (here, others) refl

pub scope_below : (scope : Scope) (n : ℕ) → Fresh scope → scope.next ≤ n → list_all (below n) scope.defined ≡ true
scope_below scope n fresh le = each_below n scope.defined scope.defined (λ name h. h) (λ m more. fresh.below m (omega arith))
