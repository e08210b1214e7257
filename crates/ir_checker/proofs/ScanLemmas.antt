-- The first fault, instruction by instruction, block by block and function by function.
use Rattle.std.proofs.Common.{◌≡◌, ℕ, suc, ◌<◌, ◌≤◌, ◌+◌, ◌-◌, Bool, true, false, List, [], ◌∷◌, map, length, drop, get_or, Option, Some, None, refl, sym, ap, ◌∙◌, arith, add-one}
use Rattle.std.specs.Prelude.{◌&&◌, is_some, nat_eq}
use Rattle.std.proofs.Math.Dec.{eqb-suc-zero}
use Rattle.std.proofs.Math.Seq.{drop-cons}
use Rattle.std.proofs.Math.ListN.{length-map}
use Rattle.std.proofs.lemmas.Bool.Decides.{nat_tests}
use Rattle.std.proofs.lemmas.List.{drop_all, length-drop}
use Rattle.pv_base.specs.declared.name.Name.{Name}
use Rattle.ir_tree.specs.declared.instruction.Instruction.{Instruction}
use Rattle.ir_tree.specs.declared.instruction.Instruction.TheVariants as instruction
use Rattle.ir_tree.specs.declared.items.Global.{Global}
use Rattle.ir_tree.specs.declared.items.Block.{Block}
use Rattle.ir_tree.specs.declared.items.Function.{Function}
use Rattle.ir_tree.specs.Table.{Table}
use Rattle.ir_tree.specs.Naming.{name_at}
use Rattle.ir_tree.specs.Shown.{shown, shown_block, shown_function, shown_global}
use Rattle.ir_rules.specs.declared.fault.CheckCause.{CheckCause}
use Rattle.ir_rules.specs.declared.fault.CheckError.{CheckError}
use Rattle.ir_rules.specs.Seen.{FunctionV, ModuleV}
use Rattle.ir_rules.specs.Forms.{is_phi}
use Rattle.ir_rules.specs.Spots.{Spot, is_empty}
use Rattle.ir_checker.specs.declared.found.Found.{Found}
use Rattle.ir_checker.specs.Finding.{either, spot_cause, found_at, block_fault, lack_cause, blocks_fault, function_fault, fault_in, functions_fault, global_cause, fault_of_global, globals_fault}

phi_shown : (t : Table) (i : Instruction ℕ ℕ ℕ) → is_phi (shown t i) ≡ is_phi i
unfolding shown is_phi
phi_shown t (instruction.Binary to op flags of left right) = refl
phi_shown t (instruction.Cast to op flags of value target) = refl
phi_shown t (instruction.Freeze to of value) = refl
phi_shown t (instruction.Compare to pred of left right) = refl
phi_shown t (instruction.Select to condition of on_true on_false) = refl
phi_shown t (instruction.Phi to of arms) = refl
phi_shown t (instruction.Alloca to of count) = refl
phi_shown t (instruction.Load to of pointer) = refl
phi_shown t (instruction.Store of value pointer) = refl
phi_shown t (instruction.Address to inbounds of base indices) = refl
phi_shown t (instruction.Call to of variadic what arguments) = refl
phi_shown t (instruction.Return value) = refl
phi_shown t (instruction.Jump target) = refl
phi_shown t (instruction.Branch condition on_true on_false) = refl
phi_shown t (instruction.Switch of value default cases) = refl
phi_shown t instruction.Unreachable = refl

at_drop : {X : Type 0} (xs : List X) (i : ℕ) (x d : X) → i < length xs → x ≡ get_or xs i d → drop i xs ≡ x ∷ drop (suc i) xs
at_drop xs i x d lt is = drop-cons xs i d lt ∙ ap (λ y. y ∷ drop (suc i) xs) (sym is)

pub empty_shown : {X Y : Type 0} (h : X → Y) (xs : List X) → is_empty (map h xs) ≡ nat_eq (length xs) 0
empty_shown h [] = refl
empty_shown h (x ∷ xs) = sym (eqb-suc-zero (length xs))

tests_same : (n i : ℕ) → i < n → nat_eq (n - suc i) 0 ≡ nat_eq (i + 1) n
tests_same n i lt = grind (arith, nat_tests)

last_shown : {X Y : Type 0} (h : X → Y) (xs : List X) (i : ℕ) → i < length xs → is_empty (map h (drop (suc i) xs)) ≡ nat_eq (i + 1) (length xs)
last_shown h xs i lt = empty_shown h (drop (suc i) xs) ∙ rw (length-drop (suc i) xs) (tests_same (length xs) i lt)

either_first : {A : Type 0} (o other : Option A) → is_some o ≡ true → either o other ≡ o
either_first None other e = absurd cc
either_first (Some x) other e = refl

either_second : {A : Type 0} (o other : Option A) → is_some o ≡ false → either o other ≡ other
either_second None other e = refl
either_second (Some x) other e = absurd cc

module _ (m : ModuleV) (f : FunctionV) (t : Table) where
  -- an instruction of a block
  module _ (label : Name) (entry : Bool) (xs : List (Instruction ℕ ℕ ℕ)) (i : ℕ) (phis lack : Bool) (k : ℕ) where
    spot : Instruction ℕ ℕ ℕ → Spot
    spot x = record { instruction = shown t x; label = label; entry = entry; behind_phis = phis; last = nat_eq (i + 1) (length xs) }

    block_step : (x : Instruction ℕ ℕ ℕ) → i < length xs → x ≡ get_or xs i x → block_fault m f label entry phis lack k (map (shown t) (drop i xs))
        ≡ either (found_at k (spot_cause m f lack (record { instruction = shown t x; label = label; entry = entry; behind_phis = phis; last = nat_eq (i + 1) (length xs) }))) (block_fault m f label entry (phis && is_phi x) false (k + 1) (map (shown t) (drop (suc i) xs)))
    unfolding block_fault
    block_step x lt is = rw (at_drop xs i x x lt is, last_shown (shown t) xs i lt, phi_shown t x) refl

    pub block_stop : (x : Instruction ℕ ℕ ℕ) (place : ℕ) (cause : CheckCause) → i < length xs → x ≡ get_or xs i x
        → Some cause ≡ spot_cause m f lack (record { instruction = shown t x; label = label; entry = entry; behind_phis = phis; last = nat_eq (i + 1) (length xs) })
        → place ≡ k → Some (record { place = place; cause = cause }) ≡ block_fault m f label entry phis lack k (map (shown t) (drop i xs))
    block_stop x place cause lt is e p = rw (block_step x lt is, ← e, p) refl

    pub block_go : (x : Instruction ℕ ℕ ℕ) (next : ℕ) → i < length xs → x ≡ get_or xs i x
        → None ≡ spot_cause m f lack (record { instruction = shown t x; label = label; entry = entry; behind_phis = phis; last = nat_eq (i + 1) (length xs) })
        → next ≡ k + 1 → block_fault m f label entry phis lack k (map (shown t) (drop i xs)) ≡ block_fault m f label entry (phis && is_phi x) false next (map (shown t) (drop (i + 1) xs))
    block_go x next lt is e p = let q : i + 1 ≡ suc i = omega arith in rw (block_step x lt is, ← e, p, q) refl

    pub block_end : length xs ≤ i → None ≡ block_fault m f label entry phis lack k (map (shown t) (drop i xs))
    unfolding block_fault
    block_end le = rw (drop_all i xs le) refl

  -- a block of a function
  module _ (xs : List (Block ℕ ℕ ℕ)) (i : ℕ) (entry lack : Bool) (k : ℕ) where
    blocks_step : (b : Block ℕ ℕ ℕ) (r : Option Found) → i < length xs → b ≡ get_or xs i b → r ≡ block_fault m f (name_at t b.label) entry true lack k (map (shown t) b.instructions)
        → blocks_fault m f entry lack k (map (shown_block t) (drop i xs)) ≡ either r (blocks_fault m f false (nat_eq (length b.instructions) 0) (k + length b.instructions) (map (shown_block t) (drop (suc i) xs)))
    unfolding blocks_fault
    blocks_step b r lt is e =
        let n : length (map (shown t) b.instructions) ≡ length b.instructions = length-map b.instructions (shown t) in
        rw (at_drop xs i b b lt is, empty_shown (shown t) b.instructions, n, e) refl

    pub blocks_stop : (b : Block ℕ ℕ ℕ) (r : Option Found) → i < length xs → b ≡ get_or xs i b → r ≡ block_fault m f (name_at t b.label) entry true lack k (map (shown t) b.instructions)
        → is_some r ≡ true → r ≡ blocks_fault m f entry lack k (map (shown_block t) (drop i xs))
    blocks_stop b r lt is e some = sym (blocks_step b r lt is e ∙ either_first r _ some)

    pub blocks_go : (b : Block ℕ ℕ ℕ) (r : Option Found) (next : ℕ) → i < length xs → b ≡ get_or xs i b → r ≡ block_fault m f (name_at t b.label) entry true lack k (map (shown t) b.instructions)
        → is_some r ≡ false → next ≡ k + length b.instructions
        → blocks_fault m f entry lack k (map (shown_block t) (drop i xs)) ≡ blocks_fault m f false (nat_eq (length b.instructions) 0) next (map (shown_block t) (drop (i + 1) xs))
    blocks_go b r next lt is e none p = rw (p, add-one) (blocks_step b r lt is e ∙ either_second r _ none)

    pub blocks_end : length xs ≤ i → found_at k (lack_cause lack) ≡ blocks_fault m f entry lack k (map (shown_block t) (drop i xs))
    unfolding blocks_fault
    blocks_end le = rw (drop_all i xs le) refl

-- a function of the module
module _ (m : ModuleV) (t : Table) (xs : List (Function ℕ ℕ ℕ)) (i : ℕ) where
  functions_step : (f : Function ℕ ℕ ℕ) (n : ℕ) (found : Option Found) (r : Option CheckError) → i < length xs → f ≡ get_or xs i f → n ≡ 0 + i → found ≡ function_fault m (shown_function t f) → r ≡ fault_in n found
      → functions_fault m i (map (shown_function t) (drop i xs)) ≡ either r (functions_fault m (i + 1) (map (shown_function t) (drop (suc i) xs)))
  unfolding functions_fault
  functions_step f n found r lt is p e d = let q : n ≡ i = omega arith in rw (at_drop xs i f f lt is, d, e, q) refl

  pub functions_stop : (f : Function ℕ ℕ ℕ) (n : ℕ) (found : Option Found) (r : Option CheckError) → i < length xs → f ≡ get_or xs i f → n ≡ 0 + i → found ≡ function_fault m (shown_function t f) → r ≡ fault_in n found
      → is_some r ≡ true → r ≡ functions_fault m i (map (shown_function t) (drop i xs))
  functions_stop f n found r lt is p e d some = sym (functions_step f n found r lt is p e d ∙ either_first r _ some)

  pub functions_go : (f : Function ℕ ℕ ℕ) (n : ℕ) (found : Option Found) (r : Option CheckError) → i < length xs → f ≡ get_or xs i f → n ≡ 0 + i → found ≡ function_fault m (shown_function t f) → r ≡ fault_in n found
      → is_some r ≡ false → functions_fault m i (map (shown_function t) (drop i xs)) ≡ functions_fault m (i + 1) (map (shown_function t) (drop (i + 1) xs))
  functions_go f n found r lt is p e d none =
      let q : suc i ≡ i + 1 = omega arith in
      functions_step f n found r lt is p e d ∙ either_second r _ none ∙ ap (λ j. functions_fault m (i + 1) (map (shown_function t) (drop j xs))) q

  pub functions_end : length xs ≤ i → None ≡ functions_fault m i (map (shown_function t) (drop i xs))
  unfolding functions_fault
  functions_end le = rw (drop_all i xs le) refl

-- a global of the module
module _ (m : ModuleV) (t : Table) (xs : List (Global ℕ ℕ ℕ)) (i : ℕ) where
  globals_step : (g d : Global ℕ ℕ ℕ) (n : ℕ) (cause : Option CheckCause) (r : Option CheckError) → i < length xs → g ≡ get_or xs i d → n ≡ 0 + i → cause ≡ global_cause m (shown_global t g) → r ≡ fault_of_global n cause
      → globals_fault m i (map (shown_global t) (drop i xs)) ≡ either r (globals_fault m (i + 1) (map (shown_global t) (drop (suc i) xs)))
  unfolding globals_fault
  globals_step g d n cause r lt is p e to = let q : n ≡ i = omega arith in rw (at_drop xs i g d lt is, to, e, q) refl

  pub globals_stop : (g d : Global ℕ ℕ ℕ) (n : ℕ) (cause : Option CheckCause) (r : Option CheckError) → i < length xs → g ≡ get_or xs i d → n ≡ 0 + i → cause ≡ global_cause m (shown_global t g) → r ≡ fault_of_global n cause
      → is_some r ≡ true → r ≡ globals_fault m i (map (shown_global t) (drop i xs))
  globals_stop g d n cause r lt is p e to some = sym (globals_step g d n cause r lt is p e to ∙ either_first r _ some)

  pub globals_go : (g d : Global ℕ ℕ ℕ) (n : ℕ) (cause : Option CheckCause) (r : Option CheckError) → i < length xs → g ≡ get_or xs i d → n ≡ 0 + i → cause ≡ global_cause m (shown_global t g) → r ≡ fault_of_global n cause
      → is_some r ≡ false → globals_fault m i (map (shown_global t) (drop i xs)) ≡ globals_fault m (i + 1) (map (shown_global t) (drop (i + 1) xs))
  globals_go g d n cause r lt is p e to none =
      let q : suc i ≡ i + 1 = omega arith in
      globals_step g d n cause r lt is p e to ∙ either_second r _ none ∙ ap (λ j. globals_fault m (i + 1) (map (shown_global t) (drop j xs))) q

  pub globals_end : length xs ≤ i → None ≡ globals_fault m i (map (shown_global t) (drop i xs))
  unfolding globals_fault
  globals_end le = rw (drop_all i xs le) refl
