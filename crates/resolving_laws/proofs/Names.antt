-- The names of registers, and the phis of a block.
use Rattle.std.proofs.Common.{◌≡◌, ℕ, suc, true, false, List, [], ◌∷◌, map, length, Option, Some, None, refl, ap, ◌∙◌, ◌⊎◌, inl, inr}
use Rattle.std.specs.Prelude.{option_map}
use Rattle.std.specs.List.{filter_map, flat_map, cons_option}
use Rattle.std.proofs.lemmas.List.{map-append}
use Rattle.ir_tree.specs.declared.instruction.Instruction.{Instruction}
use Rattle.ir_tree.specs.declared.instruction.Instruction.TheVariants as tree
use Rattle.ir_tree.specs.declared.items.Param.{Param}
use Rattle.ir_tree.specs.declared.items.Block.{Block}
use Rattle.ir_tree.specs.declared.items.Function.{Function}
use Rattle.ir_rules.specs.Forms.{is_phi}
use Rattle.ir_rules.specs.Forms as forms
use Rattle.ir_code.specs.declared.registers.Register.{Register}
use Rattle.ir_code.specs.Tables.{Tables}
use Rattle.ir_code.specs.Blocks.{result_of, parameter_of, registers_of, Join, join_of, joins_of}
use Rattle.resolving_laws.specs.Looking.{Each}
use Rattle.resolving_laws.specs.Resolved.{result_name, register_names, phis_of}

-- ---- names of registers

named : (t : Tables) (i : Instruction ℕ ℕ ℕ) → option_map (λ r. r.name) (result_of t i) ≡ result_name i
unfolding forms.result_of
named t (tree.Binary to op flags of left right) = refl
named t (tree.Cast to op flags of value target) = refl
named t (tree.Freeze to of value) = refl
named t (tree.Compare to pred of left right) = refl
named t (tree.Select to condition of on_true on_false) = refl
named t (tree.Phi to of arms) = refl
named t (tree.Alloca to of count) = refl
named t (tree.Load to of pointer) = refl
named t (tree.Store of value pointer) = refl
named t (tree.Address to inbounds of base indices) = refl
named t (tree.Call None of variadic what arguments) = refl
named t (tree.Call (Some to) of variadic what arguments) = refl
named t (tree.Return value) = refl
named t (tree.Jump target) = refl
named t (tree.Branch condition on_true on_false) = refl
named t (tree.Switch of value default cases) = refl
named t tree.Unreachable = refl

consed : {A B : Type 0} (h : A → B) (o : Option A) (xs : List A) → map h (cons_option o xs) ≡ cons_option (option_map h o) (map h xs)
consed h None xs = refl
consed h (Some x) xs = refl

results : (t : Tables) (is : List (Instruction ℕ ℕ ℕ)) → map (λ r. r.name) (filter_map (result_of t) is) ≡ filter_map result_name is
results t [] = refl
results t (i ∷ is) = consed (λ (r : Register). r.name) (result_of t i) (filter_map (result_of t) is) ∙ (rw (named t i, results t is) refl)

all_results : (t : Tables) (bs : List (Block ℕ ℕ ℕ)) → map (λ r. r.name) (flat_map (λ b. filter_map (result_of t) b.instructions) bs) ≡ flat_map (λ b. filter_map result_name b.instructions) bs
all_results t [] = refl
all_results t (b ∷ bs) = map-append (λ (r : Register). r.name) (filter_map (result_of t) b.instructions) (flat_map (λ b. filter_map (result_of t) b.instructions) bs) ∙ (rw (results t b.instructions, all_results t bs) refl)

parameters : (t : Tables) (ps : List (Param ℕ ℕ)) → map (λ r. r.name) (map (parameter_of t) ps) ≡ map (λ p. p.name) ps
parameters t [] = refl
parameters t (p ∷ ps) = ap (λ ns. p.name ∷ ns) (parameters t ps)

pub names_are : (t : Tables) (f : Function ℕ ℕ ℕ) → map (λ r. r.name) (registers_of t f) ≡ register_names f
names_are t f = map-append (λ (r : Register). r.name) (map (parameter_of t) f.params) (flat_map (λ b. filter_map (result_of t) b.instructions) f.blocks) ∙ (rw (parameters t f.params, all_results t f.blocks) refl)

-- ---- phis

-- an instruction is a phi, or none of those that a block begins with
pub phi_or_not : (i : Instruction ℕ ℕ ℕ) → ((j : Join) × (join_of i ≡ Some j) × (is_phi i ≡ true) × (i ≡ tree.Phi j.to j.of j.arms)) ⊎ ((join_of i ≡ None) × (is_phi i ≡ false))
unfolding is_phi
phi_or_not (tree.Phi to of arms) = inl (record { to = to; of = of; arms = arms }, refl, refl, refl)
phi_or_not (tree.Binary to op flags of left right) = inr (refl, refl)
phi_or_not (tree.Cast to op flags of value target) = inr (refl, refl)
phi_or_not (tree.Freeze to of value) = inr (refl, refl)
phi_or_not (tree.Compare to pred of left right) = inr (refl, refl)
phi_or_not (tree.Select to condition of on_true on_false) = inr (refl, refl)
phi_or_not (tree.Alloca to of count) = inr (refl, refl)
phi_or_not (tree.Load to of pointer) = inr (refl, refl)
phi_or_not (tree.Store of value pointer) = inr (refl, refl)
phi_or_not (tree.Address to inbounds of base indices) = inr (refl, refl)
phi_or_not (tree.Call to of variadic what arguments) = inr (refl, refl)
phi_or_not (tree.Return value) = inr (refl, refl)
phi_or_not (tree.Jump target) = inr (refl, refl)
phi_or_not (tree.Branch condition on_true on_false) = inr (refl, refl)
phi_or_not (tree.Switch of value default cases) = inr (refl, refl)
phi_or_not tree.Unreachable = inr (refl, refl)

-- the phis are those that a block begins with, one by one
pub AreJoins : List (Instruction ℕ ℕ ℕ) → List Join → Type 0
AreJoins [] [] = Unit {0}
AreJoins (i ∷ is) (j ∷ js) = (i ≡ tree.Phi j.to j.of j.arms) × AreJoins is js
AreJoins is js = ⊥

pub joins_phis : (is : List (Instruction ℕ ℕ ℕ)) → AreJoins (phis_of is) (joins_of is)
unfolding AreJoins
joins_phis [] = tt
joins_phis (i ∷ is) = elim (phi_or_not i) [
  | inl h ↦ rw (h.1, h.2) (h.3, joins_phis is)
  | inr h ↦ rw (h.0, h.1) tt
]

pub joins_count : (is : List (Instruction ℕ ℕ ℕ)) (js : List Join) → AreJoins is js → length js ≡ length is
unfolding AreJoins
joins_count [] [] h = refl
joins_count (i ∷ is) (j ∷ js) h = ap suc (joins_count is js h.1)
joins_count [] (j ∷ js) h = elim h [ ]
joins_count (i ∷ is) [] h = elim h [ ]

-- what goes with the phis goes with what they are
pub joins_each : {B : Type 0} (P : Join → B → Type 0) (Q : Instruction ℕ ℕ ℕ → B → Type 0) → ((j : Join) (b : B) → P j b → Q (tree.Phi j.to j.of j.arms) b)
    → (is : List (Instruction ℕ ℕ ℕ)) (js : List Join) (bs : List B) → AreJoins is js → Each P js bs → Each Q is bs
unfolding AreJoins
joins_each P Q to [] [] [] h e = tt
joins_each P Q to [] [] (b ∷ bs) h e = elim e [ ]
joins_each P Q to [] (j ∷ js) bs h e = elim h [ ]
joins_each P Q to (i ∷ is) [] bs h e = elim h [ ]
joins_each P Q to (i ∷ is) (j ∷ js) [] h e = elim e [ ]
joins_each P Q to (i ∷ is) (j ∷ js) (b ∷ bs) h e = (rw h.0 (to j b e.0), joins_each P Q to is js bs h.1 e.1)
