-- Where an instruction of a module stands among the places that its rules look at.
use Rattle.std.proofs.Common.{◌≡◌, ℕ, zero, suc, ◌+◌, true, false, Bool, List, [], ◌∷◌, map, length, take, Some, slice_get, refl, sym, ap, ◌∙◌, arith, length-append}
use Rattle.std.specs.Prelude.{◌&&◌}
use Rattle.std.specs.List.{flat_map, list_all}
use Rattle.pv_base.specs.declared.name.Name.{Name}
use Rattle.ir_tree.specs.declared.instruction.Instruction.{Instruction}
use Rattle.ir_tree.specs.declared.instruction.Instruction.TheVariants as tree
use Rattle.ir_tree.specs.declared.items.Block.{Block}
use Rattle.ir_tree.specs.declared.items.Function.{Function}
use Rattle.ir_tree.specs.Table.{Table}
use Rattle.ir_tree.specs.Naming.{name_at}
use Rattle.ir_tree.specs.Shown.{shown, shown_block, shown_function}
use Rattle.ir_rules.specs.Seen.{InstructionV, BlockV}
use Rattle.ir_rules.specs.Forms.{is_phi}
use Rattle.ir_rules.specs.Spots.{Spot, spots, spots_in, block_spots, blocks_spots, instruction_count}
use Rattle.ir_rules.proofs.SameLemmas.{and_both}
use Rattle.checked_code.proofs.Fitting.{sum_from}
use Rattle.resolving_laws.proofs.Blocks.{in_front, behind}

phi_shown : (t : Table) (i : Instruction ℕ ℕ ℕ) → is_phi (shown t i) ≡ true → is_phi i ≡ true
unfolding shown is_phi
phi_shown t (tree.Phi to of arms) e = refl
phi_shown t (tree.Binary to op flags of left right) e = e
phi_shown t (tree.Cast to op flags of value target) e = e
phi_shown t (tree.Freeze to of value) e = e
phi_shown t (tree.Compare to pred of left right) e = e
phi_shown t (tree.Select to condition of on_true on_false) e = e
phi_shown t (tree.Alloca to of count) e = e
phi_shown t (tree.Load to of pointer) e = e
phi_shown t (tree.Store of value pointer) e = e
phi_shown t (tree.Address to inbounds of base indices) e = e
phi_shown t (tree.Call to of variadic what arguments) e = e
phi_shown t (tree.Return value) e = e
phi_shown t (tree.Jump target) e = e
phi_shown t (tree.Branch condition on_true on_false) e = e
phi_shown t (tree.Switch of value default cases) e = e
phi_shown t tree.Unreachable e = e

-- the spot of an instruction, which may say that only phis stand before it
pub record Spotted (t : Table) (ss : List Spot) (n : ℕ) (label : ℕ) (is : List (Instruction ℕ ℕ ℕ)) (k : ℕ) (i : Instruction ℕ ℕ ℕ) : Type 0 where
  pub spot : Spot
  pub at : slice_get ss n ≡ Some spot
  pub instruction : spot.instruction ≡ shown t i
  pub label_is : spot.label ≡ name_at t label
  pub first : spot.behind_phis ≡ true → list_all is_phi (take k is) ≡ true

both : (a b : Bool) → a ≡ true → b ≡ true → (a && b) ≡ true
both a b e f = rw e f

spotted_in : (t : Table) (label : ℕ) (entry phis : Bool) (is : List (Instruction ℕ ℕ ℕ)) (k : ℕ) (i : Instruction ℕ ℕ ℕ) → slice_get is k ≡ Some i
    → (s : Spot) × (slice_get (spots_in (name_at t label) entry phis (map (shown t) is)) k ≡ Some s) × (s.instruction ≡ shown t i) × (s.label ≡ name_at t label) × (s.behind_phis ≡ true → (phis ≡ true) × (list_all is_phi (take k is) ≡ true))
unfolding spots_in
spotted_in t label entry phis [] k i e = absurd cc
spotted_in t label entry phis (x ∷ is) zero i e = let same : x ≡ i = cc in (_, refl, ap (shown t) same, refl, λ h. (h, refl))
spotted_in t label entry phis (x ∷ is) (suc k) i e =
    let r = spotted_in t label entry (phis && is_phi (shown t x)) is k i e in
    (r.0, r.1, r.2, r.3, λ h. let b = r.4 h in let p = and_both phis (is_phi (shown t x)) b.0 in (p.0, both (is_phi x) (list_all is_phi (take k is)) (phi_shown t x p.1) b.1))

spots_count : (label : Name) (entry phis : Bool) (is : List InstructionV) → length (spots_in label entry phis is) ≡ length is
unfolding spots_in
spots_count label entry phis [] = refl
spots_count label entry phis (i ∷ is) = ap suc (spots_count label entry (phis && is_phi i) is)

shown_count : (t : Table) (is : List (Instruction ℕ ℕ ℕ)) → length (map (shown t) is) ≡ length is
shown_count t [] = refl
shown_count t (i ∷ is) = ap suc (shown_count t is)

count_more : {N T C : Type 0} (b : Block N T C) (bs : List (Block N T C)) → instruction_count (b ∷ bs) ≡ length b.instructions + instruction_count bs
count_more {N} {T} {C} b bs = let e = sum_from (λ (x : Block N T C). length x.instructions) bs (0 + length b.instructions) in omega (arith, e)

-- ---- the blocks behind the first

spotted_flat : (t : Table) (bs : List (Block ℕ ℕ ℕ)) (j : ℕ) (b : Block ℕ ℕ ℕ) (k : ℕ) (i : Instruction ℕ ℕ ℕ) → slice_get bs j ≡ Some b → slice_get b.instructions k ≡ Some i
    → Spotted t (flat_map (block_spots false) (map (shown_block t) bs)) (instruction_count (take j bs) + k) b.label b.instructions k i
spotted_flat t [] j b k i e h = absurd cc
spotted_flat t (x ∷ bs) zero b k i e h =
    let same : b ≡ x = cc in
    let r = spotted_in t b.label false true b.instructions k i h in
    let z : 0 + k ≡ k = omega arith in
    let front : slice_get (block_spots false (shown_block t x)) k ≡ Some r.0 = ap (λ (c : Block ℕ ℕ ℕ). slice_get (block_spots false (shown_block t c)) k) (sym same) ∙ r.1 in
    record { spot = r.0; at = rw z (in_front (block_spots false (shown_block t x)) (flat_map (block_spots false) (map (shown_block t) bs)) k r.0 front); instruction = r.2; label_is = r.3; first = λ g. (r.4 g).1 }
spotted_flat t (x ∷ bs) (suc j) b k i e h =
    let r = spotted_flat t bs j b k i e h in
    let c = count_more x (take j bs) in
    let d = spots_count (name_at t x.label) false true (map (shown t) x.instructions) in
    let s = shown_count t x.instructions in
    let n : instruction_count (x ∷ take j bs) + k ≡ length (block_spots false (shown_block t x)) + (instruction_count (take j bs) + k) = omega (arith, c, d, s) in
    record { spot = r.spot; at = rw n (behind (block_spots false (shown_block t x)) (flat_map (block_spots false) (map (shown_block t) bs)) (instruction_count (take j bs) + k) ∙ r.at); instruction = r.instruction; label_is = r.label_is; first = r.first }

pub spotted : (t : Table) (f : Function ℕ ℕ ℕ) (j : ℕ) (b : Block ℕ ℕ ℕ) (k : ℕ) (i : Instruction ℕ ℕ ℕ) → slice_get f.blocks j ≡ Some b → slice_get b.instructions k ≡ Some i
    → Spotted t (spots (shown_function t f)) (instruction_count (take j f.blocks) + k) b.label b.instructions k i
spotted t f j b k i e h = go f.blocks j e
  where
    go : (bs : List (Block ℕ ℕ ℕ)) (j : ℕ) → slice_get bs j ≡ Some b → Spotted t (blocks_spots (map (shown_block t) bs)) (instruction_count (take j bs) + k) b.label b.instructions k i
    go [] j e = absurd cc
    go (x ∷ bs) zero e =
        let same : b ≡ x = cc in
        let r = spotted_in t b.label true true b.instructions k i h in
        let z : 0 + k ≡ k = omega arith in
        let front : slice_get (block_spots true (shown_block t x)) k ≡ Some r.0 = ap (λ (c : Block ℕ ℕ ℕ). slice_get (block_spots true (shown_block t c)) k) (sym same) ∙ r.1 in
        record { spot = r.0; at = rw z (in_front (block_spots true (shown_block t x)) (flat_map (block_spots false) (map (shown_block t) bs)) k r.0 front); instruction = r.2; label_is = r.3; first = λ g. (r.4 g).1 }
    go (x ∷ bs) (suc j) e =
        let r = spotted_flat t bs j b k i e h in
        let c = count_more x (take j bs) in
        let d = spots_count (name_at t x.label) true true (map (shown t) x.instructions) in
        let s = shown_count t x.instructions in
        let n : instruction_count (x ∷ take j bs) + k ≡ length (block_spots true (shown_block t x)) + (instruction_count (take j bs) + k) = omega (arith, c, d, s) in
        record { spot = r.spot; at = rw n (behind (block_spots true (shown_block t x)) (flat_map (block_spots false) (map (shown_block t) bs)) (instruction_count (take j bs) + k) ∙ r.at); instruction = r.instruction; label_is = r.label_is; first = r.first }

-- ---- how many spots there are

flat_count : (bs : List BlockV) → length (flat_map (block_spots false) bs) ≡ instruction_count bs
flat_count [] = refl
flat_count (b ∷ bs) = let r = flat_count bs in let d = spots_count b.label false true b.instructions in let c = count_more b bs in omega (arith, r, d, c, length-append (block_spots false b) (flat_map (block_spots false) bs))

pub all_count : (bs : List BlockV) → length (blocks_spots bs) ≡ instruction_count bs
all_count [] = refl
all_count (b ∷ bs) = let r = flat_count bs in let d = spots_count b.label true true b.instructions in let c = count_more b bs in omega (arith, r, d, c, length-append (block_spots true b) (flat_map (block_spots false) bs))
