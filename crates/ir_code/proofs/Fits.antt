-- Numbers of instructions, as blocks and functions are added.
use Rattle.std.proofs.Common.{◌≡◌, ℕ, zero, suc, ◌+◌, ◌-◌, ◌<◌, ◌≤◌, ◌^◌, List, [], ◌∷◌, ◌++◌, map, length, drop, slice_get, Some, sym, ◌∙◌, ap, arith, length-append}
use Rattle.std.specs.Prelude.{replicate}
use Rattle.std.proofs.lemmas.List.{length-drop, length-map, length-replicate}
use Rattle.ir_tree.specs.declared.instruction.Instruction.{Instruction}
use Rattle.ir_tree.specs.Modules.{Items}
use Rattle.ir_code.specs.declared.op.Op.{Op}
use Rattle.ir_code.specs.declared.op.Op.TheVariants as op
use Rattle.ir_code.specs.declared.code.BlockCode.{BlockCode}
use Rattle.ir_code.specs.declared.code.FunctionCode.{FunctionCode}
use Rattle.ir_code.specs.Exits.{Leading}
use Rattle.ir_code.specs.Places.{exit_at}
use Rattle.ir_code.specs.Tables.{Tables}
use Rattle.ir_code.specs.Blocks.{Scope, joins_of, op_of, ops_of}
use Rattle.ir_code.specs.Fitting.{BlocksFit, FunctionsFit}
use Rattle.ir_code.proofs.Opening.{joins_within}

-- an item of a list with one more is one of the list, or the last
item_of_push : {X : Type 0} (P : X → Type 0) (xs : List X) (x y : X) (k : ℕ) → ((j : ℕ) (z : X) → slice_get xs j ≡ Some z → P z) → P x → slice_get (xs ++ x ∷ []) k ≡ Some y → P y
item_of_push P [] x y zero all last e = let same : x ≡ y = cc in rw (← same) last
item_of_push P [] x y (suc k) all last e = absurd cc
item_of_push P (z ∷ xs) x y zero all last e = all zero y e
item_of_push P (z ∷ xs) x y (suc k) all last e = item_of_push P xs x y k (λ j w h. all (suc j) w h) last e

pub blocks_fit_more : (blocks blocks' : List BlockCode) (b : BlockCode) → blocks' ≡ blocks ++ b ∷ [] → b.first + length b.ops < 2 ^ 32 → BlocksFit blocks → BlocksFit blocks'
blocks_fit_more blocks blocks' b more fits all k x e = item_of_push (λ y. y.first + length y.ops < 2 ^ 32) blocks b x k all fits (ap (λ l. slice_get l k) (sym more) ∙ e)

pub functions_fit_more : (fs fs' : List FunctionCode) (f : FunctionCode) → fs' ≡ fs ++ f ∷ [] → BlocksFit f.blocks → FunctionsFit fs → FunctionsFit fs'
functions_fit_more fs fs' f more fits all k x e = item_of_push (λ y. BlocksFit y.blocks) fs f x k all fits (ap (λ l. slice_get l k) (sym more) ∙ e)

-- a block has as many ops as instructions
pub ops_counted : (m : Items) (t : Tables) (s : Scope) (exits : Leading) (instructions : List (Instruction ℕ ℕ ℕ)) (ops : List Op) → ops ≡ ops_of m t s exits instructions → length ops ≡ length instructions
ops_counted m t s exits instructions ops is =
    let within : length (joins_of instructions) ≤ length instructions = joins_within instructions in
    let rest = map (op_of m t s (exit_at s.labels exits.targets exits.first)) (drop (length (joins_of instructions)) instructions) in
    let counted : length rest ≡ length instructions - length (joins_of instructions) = length-map (drop (length (joins_of instructions)) instructions) (op_of m t s (exit_at s.labels exits.targets exits.first)) ∙ length-drop (length (joins_of instructions)) instructions in
    let all : length ops ≡ length (replicate (length (joins_of instructions)) op.Phi ++ rest) = ap length is in
    omega (arith, length-append (replicate (length (joins_of instructions)) op.Phi) rest, length-replicate (length (joins_of instructions)) op.Phi)
