-- Each instruction of a checked module is resolved.
use Rattle.std.proofs.Common.{◌≡◌, ℕ, zero, suc, true, false, Bool, List, [], ◌∷◌, take, Option, Some, None, slice_get, refl, sym, ap, subst, ◌∙◌, inl, inr}
use Rattle.std.specs.Prelude.{◌&&◌, unwrap_or}
use Rattle.std.specs.List.{list_all}
use Rattle.ir_tree.specs.declared.instruction.Instruction.{Instruction}
use Rattle.ir_tree.specs.declared.instruction.Instruction.TheVariants as tree
use Rattle.ir_tree.specs.declared.items.Block.{Block}
use Rattle.ir_tree.specs.declared.items.Function.{Function}
use Rattle.ir_tree.specs.Table.{IsTable}
use Rattle.ir_tree.specs.Shown.{shown, shown_function}
use Rattle.ir_tree.specs.Modules.{Items}
use Rattle.ir_rules.specs.Forms.{is_phi}
use Rattle.ir_rules.specs.Spots.{Spot}
use Rattle.ir_rules.specs.Causes.{phi_fits}
use Rattle.ir_rules.specs.Numbering.{function_within, is_within}
use Rattle.ir_rules.specs.Checked.{IsChecked}
use Rattle.ir_rules.proofs.SameLemmas.{and_both}
use Rattle.global_laws.proofs.Found as found
use Rattle.ir_code.specs.declared.op.Op.{Op}
use Rattle.ir_code.specs.declared.op.Op.TheVariants as op
use Rattle.ir_tree.specs.declared.instruction.Callee.TheVariants as callee
use Rattle.ir_code.specs.declared.op.Operand.{Operand}
use Rattle.ir_code.specs.declared.code.Edge.{Edge}
use Rattle.ir_code.specs.declared.code.BlockCode.{BlockCode}
use Rattle.ir_code.specs.declared.code.FunctionCode.{FunctionCode}
use Rattle.resolving_laws.proofs.Options.{some_has}
use Rattle.resolving_laws.specs.Resolved.{IsResolved, IsCall}
use Rattle.resolving_laws.specs.Places.{StandsAt, CodedAt}
use Rattle.resolving_laws.specs.Laws.{NoneIsStuck, AllAreResolved}
use Rattle.resolving_laws.proofs.Edges.{scope}
use Rattle.resolving_laws.proofs.Blocks.{exit, own_op, place, own_is, own_resolved}
use Rattle.resolving_laws.proofs.Sound.{SoundIn, sound_at, functions_within, within_parts}
use Rattle.resolving_laws.proofs.Reached.{own_register, exit_some}
use Rattle.resolving_laws.proofs.Unstuck.{resolved_some}

-- ---- a phi stands among those that its block begins with

taken_more : {A : Type 0} (p : A → Bool) (xs : List A) (k : ℕ) (x : A) → list_all p (take k xs) ≡ true → slice_get xs k ≡ Some x → p x ≡ true → list_all p (take (suc k) xs) ≡ true
taken_more p [] k x all at e = absurd cc
taken_more p (y ∷ xs) zero x all at e = let same : x ≡ y = cc in let own : p y ≡ true = ap p (sym same) ∙ e in rw own refl
taken_more p (y ∷ xs) (suc k) x all at e = let h = and_both (p y) (list_all p (take k xs)) all in both (p y) (list_all p (take (suc k) xs)) h.0 (taken_more p xs k x h.1 at e)
  where
    both : (a b : Bool) → a ≡ true → b ≡ true → (a && b) ≡ true
    both a b e f = rw e f

phi_behind : (m : Items) (f : Function ℕ ℕ ℕ) (s : Spot) (i : Instruction ℕ ℕ ℕ) → is_phi i ≡ true → phi_fits (shown_function m.names f) s (shown m.names i) ≡ true → s.behind_phis ≡ true
unfolding phi_fits shown is_phi
phi_behind m f s (tree.Phi to of arms) phi fits = (and_both s.behind_phis _ (and_both _ _ fits).0).0
phi_behind m f s i phi fits = absurd cc

leading : (m : Items) (f : Function ℕ ℕ ℕ) (b : Block ℕ ℕ ℕ) (k : ℕ) (i : Instruction ℕ ℕ ℕ) → slice_get b.instructions k ≡ Some i → SoundIn m f b k i → is_phi i ≡ true → list_all is_phi (take (suc k) b.instructions) ≡ true
leading m f b k i at s phi = taken_more is_phi b.instructions k i (s.first (phi_behind m f s.spot i phi s.phi)) at phi

-- ---- no instruction is stuck

-- an instruction of another kind is resolved to no `Stuck`
never : (o : Option Op) (p : Op) → o ≡ Some p → (unwrap_or o op.Stuck ≡ op.Stuck) → p ≡ op.Stuck
never o p e h = sym (ap (λ x. unwrap_or x op.Stuck) e) ∙ h

-- what is called is no `Stuck`
call_never : (m : Items) (f : Function ℕ ℕ ℕ) (to : Option ℕ) (arguments : List Operand) (x k : ℕ) (declared : Bool) → IsCall m f to arguments x k declared op.Stuck → ⊥
call_never m f to arguments x k true (bytes, e, named, known, is) = absurd cc
call_never m f to arguments x k false is = absurd cc

-- no instruction is resolved to `Stuck`
stuck_never : (m : Items) (f : Function ℕ ℕ ℕ) (edges : List Edge) (label : ℕ) (i : Instruction ℕ ℕ ℕ) → IsResolved m f edges label i op.Stuck → ⊥
unfolding IsResolved
stuck_never m f edges label (tree.Binary to what flags of left right) (r, s, a, b, to_is, of_is, left_is, right_is, is) = absurd cc
stuck_never m f edges label (tree.Cast to what flags of value target) (r, s, a, width, to_is, of_is, value_is, target_is, is) = absurd cc
stuck_never m f edges label (tree.Freeze to of value) (r, s, a, to_is, of_is, value_is, is) = absurd cc
stuck_never m f edges label (tree.Compare to pred of left right) (r, s, a, b, to_is, of_is, left_is, right_is, is) = absurd cc
stuck_never m f edges label (tree.Select to condition of on_true on_false) (r, s, c, a, b, to_is, of_is, condition_is, true_is, false_is, is) = absurd cc
stuck_never m f edges label (tree.Phi to of arms) is = absurd cc
stuck_never m f edges label (tree.Alloca to of count) (r, l, n, to_is, of_is, count_is, is) = absurd cc
stuck_never m f edges label (tree.Load to of pointer) (r, s, p, to_is, of_is, pointer_is, is) = absurd cc
stuck_never m f edges label (tree.Store of value pointer) (s, a, p, of_is, value_is, pointer_is, is) = absurd cc
stuck_never m f edges label (tree.Address to inbounds of base indices) (r, p, values, steps, to_is, base_is, indices_are, steps_are, is) = absurd cc
stuck_never m f edges label (tree.Call to of variadic (callee.Function x) arguments) (r, values, to_is, arguments_are, (k, g, is)) = call_never m f r values x k g.item.declared is
stuck_never m f edges label (tree.Call to of variadic (callee.Pointer x) arguments) (r, values, to_is, arguments_are, (p, result, parameters, x_is, of_is, parameters_are, is)) = absurd cc
stuck_never m f edges label (tree.Return None) is = absurd cc
stuck_never m f edges label (tree.Return (Some a)) (v, a_is, is) = absurd cc
stuck_never m f edges label (tree.Jump target) (e, leads, is) = absurd cc
stuck_never m f edges label (tree.Branch condition on_true on_false) (c, a, b, condition_is, true_is, false_is, is) = absurd cc
stuck_never m f edges label (tree.Switch of value default cases) (s, a, d, pairs, all, of_is, value_is, default_is, cases_are, same, is) = absurd cc
stuck_never m f edges label tree.Unreachable is = absurd cc

-- the code has one instruction at a place
same_op : (m : Items) (k b i : ℕ) (s : StandsAt m k b i) (c d : CodedAt m k b i s) → c.op ≡ d.op
same_op m k b i s c d =
    let functions : Some c.function ≡ Some d.function = sym c.function_at ∙ d.function_at in
    let function : c.function ≡ d.function = cc in
    let blocks : Some c.block ≡ Some d.block = sym c.block_at ∙ ap (λ (g : FunctionCode). slice_get g.blocks b) function ∙ d.block_at in
    let block : c.block ≡ d.block = cc in
    let ops : Some c.op ≡ Some d.op = sym c.op_at ∙ ap (λ (c : BlockCode). slice_get c.ops i) block ∙ d.op_at in
    cc

-- over a place of a checked module
module _ (m : Items) (table : IsTable m.names) (checked : IsChecked m) (k b i : ℕ) (s : StandsAt m k b i) where
  within : is_within m ≡ true
  within = checked.well_formed.within

  functions : list_all (function_within m.names) m.functions ≡ true
  functions = functions_within m within

  inside : function_within m.names s.function ≡ true
  inside = found.all_at (function_within m.names) m.functions k s.function functions s.function_at

  sound : (c q : ℕ) (block : Block ℕ ℕ ℕ) (j : Instruction ℕ ℕ ℕ) → slice_get s.function.blocks c ≡ Some block → slice_get block.instructions q ≡ Some j → SoundIn m s.function block q j
  sound c q block j at here = sound_at m k c q (record { function = s.function; block = block; instruction = j; function_at = s.function_at; block_at = at; instruction_at = here }) checked

  own : SoundIn m s.function s.block i s.instruction
  own = sound b i s.block s.instruction s.block_at s.instruction_at

  none : (own_op m k b i s).own ≡ op.Stuck → ⊥
  none e = elim (own_op m k b i s).so [
    | inl h ↦ let no : op.Phi ≡ op.Stuck = sym h.0 ∙ e in absurd cc
    | inr h ↦
        let done = resolved_some m s.function table within inside (exit m k b i s) (scope s.function).labels (scope s.function).joins functions s.instruction own.own (within_parts m.names s.instruction own.own.within)
        (λ phi. h.1 (leading m s.function s.block i s.instruction s.instruction_at own phi))
        (λ d is. own_register s.function b i s.block s.instruction d s.block_at s.instruction_at is)
        (λ p x at. exit_some m s.function table within inside sound b i s.block s.instruction p x _ s.block_at s.instruction_at at) in
        let stuck : done.0 ≡ op.Stuck = never _ done.0 done.1 (sym h.0 ∙ e) in
        let is = some_has (IsResolved m s.function (place m k b i s).function.edges s.block.label s.instruction) _ done.0 (own_resolved m k b i s) done.1 in
        stuck_never m s.function (place m k b i s).function.edges s.block.label s.instruction (subst (IsResolved m s.function (place m k b i s).function.edges s.block.label s.instruction) stuck is)
  ]

pub none_is_stuck : NoneIsStuck
none_is_stuck m table checked k b i s c e = none m table checked k b i s (same_op m k b i s (place m k b i s) c ∙ e)

pub all_are_resolved : AllAreResolved
all_are_resolved m table checked k b i s = (place m k b i s, elim (own_is m k b i s) [ inl e ↦ absurd (none m table checked k b i s e) | inr h ↦ h ])
