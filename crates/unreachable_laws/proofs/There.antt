-- Where a module's code has the instruction `unreachable`, the module has it.
use Rattle.std.proofs.Common.{◌≡◌, ℕ, zero, suc, ◌+◌, ◌<◌, ◌≤◌, Bool, true, false, List, [], ◌∷◌, ◌++◌, length, map, take, drop, replicate, slice_get, Option, Some, None, refl, sym, ap, subst, ◌∙◌, arith, length-append, length-drop}
use Rattle.std.proofs.lemmas.List.{length-map, length-replicate}
use Rattle.std.proofs.lemmas.Option.{slice_get_within}
use Rattle.std.specs.Prelude.{option_map}
use Rattle.pv_base.specs.declared.place.Site.{Site}
use Rattle.ir_tree.specs.declared.instruction.Instruction.{Instruction}
use Rattle.ir_tree.specs.declared.instruction.Instruction.TheVariants as tree
use Rattle.ir_tree.specs.declared.instruction.Callee.TheVariants as callee
use Rattle.ir_tree.specs.declared.items.Block.{Block}
use Rattle.ir_tree.specs.declared.items.Function.{Function}
use Rattle.ir_tree.specs.Table.{IsTable}
use Rattle.ir_tree.specs.Modules.{Items}
use Rattle.ir_rules.specs.Checked.{IsChecked}
use Rattle.ir_rules.specs.Spots.{instruction_count}
use Rattle.ir_code.specs.declared.op.Op.{Op}
use Rattle.ir_code.specs.declared.op.Op.TheVariants as op
use Rattle.ir_code.specs.declared.op.Operand.{Operand}
use Rattle.ir_code.specs.declared.code.Edge.{Edge}
use Rattle.ir_code.specs.declared.code.BlockCode.{BlockCode}
use Rattle.ir_code.specs.declared.code.FunctionCode.{FunctionCode}
use Rattle.ir_code.specs.declared.code.Code.{Code}
use Rattle.ir_code.specs.Tables.{Tables}
use Rattle.ir_code.specs.Blocks.{Scope, Join, join_of, before_joins, joins_of, ops_of, block_of, blocks_from, op_of}
use Rattle.ir_code.specs.Exits.{Leading}
use Rattle.ir_code.specs.Coding.{tables_of, function_of, code_of}
use Rattle.seq_machine.specs.Acts.{function_at, block_at, op_at, blocks_of}
use Rattle.seq_machine.specs.Acts as acts
use Rattle.seq_machine.specs.Step.{site_at, first_of}
use Rattle.resolving_laws.specs.Resolved.{IsResolved, IsCall}
use Rattle.resolving_laws.specs.Places.{StandsAt, CodedAt}
use Rattle.resolving_laws.proofs.Edges.{scope}
use Rattle.resolving_laws.proofs.Blocks.{function_in}
use Rattle.resolving_laws.proofs.Blocks as blocks
use Rattle.resolving_laws.proofs.Laws.{all_are_resolved}
use Rattle.unreachable_laws.specs.Laws.{StandsUnreachable, IsUnreachableAt, UnreachableIsThere}
use Rattle.unreachable_laws.proofs.Acting.{item_at}

-- ---- where the code has an instruction, the module has one

made_at : {A B : Type 0} (h : A → B) (xs : List A) (k : ℕ) (y : B) → slice_get (map h xs) k ≡ Some y → (x : A) × (slice_get xs k ≡ Some x)
made_at h [] k y e = absurd cc
made_at h (x ∷ xs) zero y e = (x, refl)
made_at h (x ∷ xs) (suc k) y e = made_at h xs k y e

functions_are : (m : Items) → (code_of m).functions ≡ map (function_of m (tables_of m)) m.functions
unfolding code_of
functions_are m = refl

block_back : (m : Items) (t : Tables) (s : Scope) (bs : List (Block ℕ ℕ ℕ)) (n e j : ℕ) (c : BlockCode) → slice_get (blocks_from m t s n e bs) j ≡ Some c → (b : Block ℕ ℕ ℕ) × (slice_get bs j ≡ Some b)
block_back m t s [] n e j c is = absurd cc
block_back m t s (b ∷ bs) n e zero c is = (b, refl)
block_back m t s (b ∷ bs) n e (suc j) c is = block_back m t s bs _ _ j c is

joins_few : (is : List (Instruction ℕ ℕ ℕ)) → length (joins_of is) ≤ length is
joins_few [] = omega arith
joins_few (i ∷ is) = go (join_of i) (joins_few is)
  where
    go : (o : Option Join) → length (joins_of is) ≤ length is → length (before_joins o (joins_of is)) ≤ suc (length is)
    go None h = omega arith
    go (Some j) h = omega (arith, h)

as_many : (n : ℕ) (h : Instruction ℕ ℕ ℕ → Op) (is : List (Instruction ℕ ℕ ℕ)) → n ≤ length is → length (replicate n op.Phi ++ map h (drop n is)) ≡ length is
as_many n h is le =
    let a = length-append (replicate n op.Phi) (map h (drop n is)) in
    let b : length (replicate n op.Phi) ≡ n = length-replicate n op.Phi in
    let c : length (map h (drop n is)) ≡ length (drop n is) = length-map (drop n is) h in
    let d = length-drop n is in
    omega (arith, a, b, c, d, le)

op_back : (n : ℕ) (h : Instruction ℕ ℕ ℕ → Op) (is : List (Instruction ℕ ℕ ℕ)) (i : ℕ) (o : Op) → n ≤ length is → slice_get (replicate n op.Phi ++ map h (drop n is)) i ≡ Some o → (x : Instruction ℕ ℕ ℕ) × (slice_get is i ≡ Some x)
op_back n h is i o le e =
    let lt : i < length (replicate n op.Phi ++ map h (drop n is)) = slice_get_within (replicate n op.Phi ++ map h (drop n is)) i o e in
    let many : length (replicate n op.Phi ++ map h (drop n is)) ≡ length is = as_many n h is le in
    item_at is i (omega (arith, lt, many))

same_some : {A : Type 0} (o : Option A) (x y : A) → o ≡ Some x → o ≡ Some y → x ≡ y
same_some o x y e q = cc

pub there : (m : Items) (k b i : ℕ) (g : FunctionCode) (block : BlockCode) (o : Op) → slice_get (code_of m).functions k ≡ Some g → slice_get g.blocks b ≡ Some block → slice_get block.ops i ≡ Some o → StandsAt m k b i
there m k b i g block o at in_function in_block =
    let f = made_at (function_of m (tables_of m)) m.functions k g (ap (λ fs. slice_get fs k) (sym (functions_are m)) ∙ at) in
    let g_is : g ≡ function_in m f.0 (scope f.0) = same_some (slice_get (code_of m).functions k) g (function_in m f.0 (scope f.0)) at (blocks.function_at m k f.0 f.1) in
    let in_made : slice_get (blocks_from m (tables_of m) (scope f.0) 0 0 f.0.blocks) b ≡ Some block = subst (λ (x : FunctionCode). slice_get x.blocks b ≡ Some block) g_is in_function in
    let c = block_back m (tables_of m) (scope f.0) f.0.blocks 0 0 b block in_made in
    let made = blocks.block_at m (tables_of m) (scope f.0) f.0.blocks b c.0 c.1 in
    let block_is = same_some (slice_get (blocks_from m (tables_of m) (scope f.0) 0 0 f.0.blocks) b) block _ in_made made in
    let x = op_back (length (joins_of c.0.instructions)) _ c.0.instructions i o (joins_few c.0.instructions) (subst (λ (y : BlockCode). slice_get y.ops i ≡ Some o) block_is in_block) in
    record { function = f.0; block = c.0; instruction = x.0; function_at = f.1; block_at = c.1; instruction_at = x.1 }

-- ---- what is resolved to `unreachable`

call_never : (m : Items) (f : Function ℕ ℕ ℕ) (to : Option ℕ) (arguments : List Operand) (x k : ℕ) (declared : Bool) → IsCall m f to arguments x k declared op.Unreachable → ⊥
call_never m f to arguments x k true (bytes, e, named, known, is) = absurd cc
call_never m f to arguments x k false is = absurd cc

is_it : (m : Items) (f : Function ℕ ℕ ℕ) (edges : List Edge) (label : ℕ) (i : Instruction ℕ ℕ ℕ) → IsResolved m f edges label i op.Unreachable → i ≡ tree.Unreachable
unfolding IsResolved
is_it m f edges label (tree.Binary to what flags of left right) (r, s, a, b, to_is, of_is, left_is, right_is, is) = absurd cc
is_it m f edges label (tree.Cast to what flags of value target) (r, s, a, width, to_is, of_is, value_is, target_is, is) = absurd cc
is_it m f edges label (tree.Freeze to of value) (r, s, a, to_is, of_is, value_is, is) = absurd cc
is_it m f edges label (tree.Compare to pred of left right) (r, s, a, b, to_is, of_is, left_is, right_is, is) = absurd cc
is_it m f edges label (tree.Select to condition of on_true on_false) (r, s, c, a, b, to_is, of_is, condition_is, true_is, false_is, is) = absurd cc
is_it m f edges label (tree.Phi to of arms) is = absurd cc
is_it m f edges label (tree.Alloca to of count) (r, l, n, to_is, of_is, count_is, is) = absurd cc
is_it m f edges label (tree.Load to of pointer) (r, s, p, to_is, of_is, pointer_is, is) = absurd cc
is_it m f edges label (tree.Store of value pointer) (s, a, p, of_is, value_is, pointer_is, is) = absurd cc
is_it m f edges label (tree.Address to inbounds of base indices) (r, p, values, steps, to_is, base_is, indices_are, steps_are, is) = absurd cc
is_it m f edges label (tree.Call to of variadic (callee.Function x) arguments) (r, values, to_is, arguments_are, (k, g, is)) = absurd (call_never m f r values x k g.item.declared is)
is_it m f edges label (tree.Call to of variadic (callee.Pointer x) arguments) (r, values, to_is, arguments_are, (p, result, parameters, x_is, of_is, parameters_are, is)) = absurd cc
is_it m f edges label (tree.Return None) is = absurd cc
is_it m f edges label (tree.Return (Some a)) (v, a_is, is) = absurd cc
is_it m f edges label (tree.Jump target) (e, leads, is) = absurd cc
is_it m f edges label (tree.Branch condition on_true on_false) (c, a, b, condition_is, true_is, false_is, is) = absurd cc
is_it m f edges label (tree.Switch of value default cases) (s, a, d, pairs, all, of_is, value_is, default_is, cases_are, same, is) = absurd cc
is_it m f edges label tree.Unreachable is = refl

-- ---- all of it

pub unreachable_is_there : UnreachableIsThere
unreachable_is_there m table checked site u =
    let f = u.frame in
    let x = u.typed in
    let s = there m f.function f.block f.place x.function x.block x.op x.function_is x.block_is x.op_is in
    let r = all_are_resolved m table checked f.function f.block f.place s in
    let same_function : r.0.function ≡ x.function = same_some (slice_get (code_of m).functions f.function) r.0.function x.function r.0.function_at x.function_is in
    let same_block : r.0.block ≡ x.block = same_some (slice_get x.function.blocks f.block) r.0.block x.block (subst (λ (g : FunctionCode). slice_get g.blocks f.block ≡ Some r.0.block) same_function r.0.block_at) x.block_is in
    let is_block : block_at (code_of m) f ≡ Some x.block = ap (λ o. slice_get (blocks_of o) f.block) x.function_is ∙ x.block_is in
    let op_there : slice_get x.block.ops f.place ≡ Some op.Unreachable = sym (ap (λ o. slice_get (acts.ops_of o) f.place) is_block) ∙ u.is in
    let op_is : r.0.op ≡ op.Unreachable = same_some (slice_get x.block.ops f.place) r.0.op op.Unreachable (subst (λ (b : BlockCode). slice_get b.ops f.place ≡ Some r.0.op) same_block r.0.op_at) op_there in
    let first : first_of (block_at (code_of m) f) ≡ instruction_count (take f.block s.function.blocks) = ap first_of is_block ∙ ap (λ (b : BlockCode). b.first) (sym same_block) ∙ r.0.first in
    record {
      function = f.function;
      block = f.block;
      place = f.place;
      stands = s;
      is = is_it m s.function r.0.function.edges s.block.label s.instruction (subst (IsResolved m s.function r.0.function.edges s.block.label s.instruction) op_is r.1);
      here = u.here ∙ ap (λ n. let at : Site = record { function = f.function; place = n + f.place } in at) first;
    }
