-- The arm of a label, by its place.
use Rattle.std.proofs.Common.{◌≡◌, ℕ, suc, Bool, true, false, List, [], ◌∷◌, map, slice_get, Option, Some, None, nat_eq, refl, sym, ◌∙◌, ap}
use Rattle.std.specs.Prelude.{if◌then◌else◌, option_map, option_and_then}
use Rattle.ir_tree.specs.declared.instruction.Arm.{Arm}
use Rattle.ir_tree.specs.declared.instruction.Operand.{Operand as Named}
use Rattle.ir_code.specs.Places.{place_of}
use Rattle.ir_code.proofs.Noted.{place_below}
use Rattle.std.proofs.Common.{◌<◌, length, arith}
use Rattle.std.proofs.lemmas.List.{length-map}
use Rattle.ir_code.specs.Blocks.{arm_from}

abbrev pub at_place : List (Arm ℕ ℕ) → Option ℕ → Option (Named ℕ ℕ)
at_place arms place = option_and_then (λ k. option_map (λ a. a.value) (slice_get arms k)) place

later : (a : Arm ℕ ℕ) (arms : List (Arm ℕ ℕ)) (o : Option ℕ) → at_place arms o ≡ at_place (a ∷ arms) (option_map suc o)
later a arms None = refl
later a arms (Some k) = refl

first : (a : Arm ℕ ℕ) (arms : List (Arm ℕ ℕ)) (label : ℕ) (b : Bool) → nat_eq label a.from ≡ b → arm_from label arms ≡ at_place arms (place_of (map (λ a. Some a.from) arms) label) → arm_from label (a ∷ arms) ≡ at_place (a ∷ arms) (if b then Some 0 else option_map suc (place_of (map (λ a. Some a.from) arms) label))
first a arms label true e so = rw e refl
first a arms label false e so = rw e (so ∙ later a arms (place_of (map (λ a. Some a.from) arms) label))

pub arm_found : (arms : List (Arm ℕ ℕ)) (label : ℕ) → arm_from label arms ≡ at_place arms (place_of (map (λ a. Some a.from) arms) label)
arm_found [] label = refl
arm_found (a ∷ arms) label = first a arms label (nat_eq label a.from) refl (arm_found arms label)

pub arm_none : (arms : List (Arm ℕ ℕ)) (from : List (Option ℕ)) (label : ℕ) → from ≡ map (λ a. Some a.from) arms → None ≡ place_of from label → None ≡ arm_from label arms
arm_none arms from label is e = ap (at_place arms) (e ∙ ap (λ l. place_of l label) is) ∙ sym (arm_found arms label)

pub arm_some : (arms : List (Arm ℕ ℕ)) (from : List (Option ℕ)) (label k : ℕ) → from ≡ map (λ a. Some a.from) arms → Some k ≡ place_of from label → option_map (λ a. a.value) (slice_get arms k) ≡ arm_from label arms
arm_some arms from label k is e = ap (at_place arms) (e ∙ ap (λ l. place_of l label) is) ∙ sym (arm_found arms label)

pub arm_within : (arms : List (Arm ℕ ℕ)) (from : List (Option ℕ)) (label k : ℕ) → from ≡ map (λ a. Some a.from) arms → Some k ≡ place_of from label → k < length arms
arm_within arms from label k is e =
    let lt : k < length from = place_below from label k e in
    let len : length from ≡ length arms = ap length is ∙ simp length-map in
    omega arith
