-- A step, and a run of steps.
use Rattle.std.proofs.Common.{◌≡◌, ℕ, zero, suc, ◌-◌, ◌≤◌, List, length, slice_get, Option, Some, None, Result, Ok, Err, arith, refl}
use Rattle.std.specs.Prelude.{IfOk, All}
use Rattle.std.specs.List.{AllByRecursion}
use Rattle.pv_base.specs.Outside.{Text}
use Rattle.ir_code.specs.declared.op.Op.{Op}
use Rattle.ir_code.specs.declared.op.Op.TheVariants as op
use Rattle.ir_code.specs.declared.op.Operand.{Operand}
use Rattle.ir_code.specs.declared.op.Operand.TheVariants.{Register, Constant}
use Rattle.ir_code.specs.declared.code.Edge.{Edge}
use Rattle.ir_code.specs.declared.code.BlockCode.{BlockCode}
use Rattle.ir_code.specs.declared.code.FunctionCode.{FunctionCode}
use Rattle.ir_code.specs.declared.code.Code.{Code}
use Rattle.mem_image.specs.declared.fault.Trap.{Trap}
use Rattle.mem_image.specs.declared.fault.Trap.TheVariants.{Unreachable}
use Rattle.mem_image.specs.Picture.{Picture}
use Rattle.seq_effects.specs.declared.state.Value.{Value}
use Rattle.seq_effects.specs.declared.state.Frame.{Frame}
use Rattle.seq_effects.specs.Script.{Stops, outcome, tell, chain}
use Rattle.seq_effects.specs.Values.{constant}
use Rattle.seq_machine.specs.declared.state.State.{State}
use Rattle.seq_machine.specs.declared.state.Step.{Step}
use Rattle.seq_machine.specs.declared.state.Step.TheVariants.{Next, Ended, Trap as Trapped, Failed}
use Rattle.seq_machine.specs.declared.state.End.{End}
use Rattle.seq_machine.specs.Acts.{Control, Acted, acted, top, function_at, block_at, op_at, blocks_of, ops_of}
use Rattle.seq_machine.specs.Meaning.{meaning}
use Rattle.seq_machine.specs.Step.{here, has_next, script_in, script_of, script, control, finish, step, goes_on, steps_from}
use Rattle.keeping_laws.specs.Keeping.{ValueFits, FrameFits, IsByte, Keeps}
use Rattle.keeping_laws.specs.Constants.{OperandFits, OperandsFit, ResultFits, OpFits, MoveFits, EdgeFits, BlockFits, FunctionFits, ConstantsFit}
use Rattle.keeping_laws.specs.Trees.{TreeFits, EffectFits}
use Rattle.keeping_laws.specs.Laws.{StepKeeps, RunKeeps}
use Rattle.keeping_laws.proofs.Lists.{by_get, by_weaker}
use Rattle.keeping_laws.proofs.Pictures.{Ending, tree_keeps}
use Rattle.keeping_laws.proofs.Trees.{chain_fits, if_tree, tell_fits}
use Rattle.keeping_laws.proofs.Flow.{value_later, frame_later, frames_later}
use Rattle.keeping_laws.proofs.Acting.{Fit, ActedFits, acted_fits}
use Rattle.keeping_laws.proofs.Meanings.{instructions_fit}

-- ---- constants fit where the next name is a later one

module _ (next later : ℕ) (le : next ≤ later) where
  operand_later : (x : Operand) → OperandFits next x → OperandFits later x
  operand_later (Register r) h = tt
  operand_later (Constant c) h = go (constant c) h
    where
      go : (r : Result Value Trap) → IfOk r (ValueFits next) → IfOk r (ValueFits later)
      go (Ok v) h = value_later next later le v h
      go (Err t) h = tt

  operands_later : (xs : List Operand) → OperandsFit next xs → OperandsFit later xs
  operands_later xs h = by_weaker (OperandFits next) (OperandFits later) operand_later xs h

  result_later : (x : Option Operand) → ResultFits next x → ResultFits later x
  result_later None h = tt
  result_later (Some x) h = operand_later x h

  op_later : (o : Op) → OpFits next o → OpFits later o
  op_later (op.Binary to o flags left right) h = (operand_later left h.0, operand_later right h.1)
  op_later (op.Cast to o flags value width) h = operand_later value h
  op_later (op.Freeze to value) h = operand_later value h
  op_later (op.Compare to pred left right) h = tt
  op_later (op.Select to c a b) h = (operand_later a h.0, operand_later b h.1)
  op_later op.Phi h = tt
  op_later (op.Alloca to size) h = tt
  op_later (op.Load to t p) h = operand_later p h
  op_later (op.Store t v p) h = (operand_later v h.0, operand_later p h.1)
  op_later (op.Address to inbounds base indices) h = operand_later base h
  op_later (op.Call to k arguments) h = operands_later arguments h
  op_later (op.CallPointer to p result parameters arguments) h = operands_later arguments h
  op_later (op.CallExternal to e arguments) h = operands_later arguments h
  op_later (op.Return value) h = result_later value h
  op_later (op.Jump edge) h = tt
  op_later (op.Branch c a b) h = tt
  op_later (op.Switch v d cases) h = tt
  op_later op.Unreachable h = tt
  op_later op.Stuck h = tt

  edge_later : (e : Edge) → EdgeFits next e → EdgeFits later e
  edge_later e h = by_weaker (MoveFits next) (MoveFits later) (λ m q. operand_later m.value q) e.moves h

  edges_later : (es : List Edge) → AllByRecursion (EdgeFits next) es → AllByRecursion (EdgeFits later) es
  edges_later es h = by_weaker (EdgeFits next) (EdgeFits later) edge_later es h

  block_later : (b : BlockCode) → BlockFits next b → BlockFits later b
  block_later b h = by_weaker (OpFits next) (OpFits later) op_later b.ops h

  function_later : (g : FunctionCode) → FunctionFits next g → FunctionFits later g
  function_later g h = record { blocks = by_weaker (BlockFits next) (BlockFits later) block_later g.blocks h.blocks; edges = edges_later g.edges h.edges }

  constants_later : (code : Code) → ConstantsFit next code → ConstantsFit later code
  constants_later code h = by_weaker (FunctionFits next) (FunctionFits later) function_later code.functions h

-- ---- the instruction at which a frame stands

blocks_fit : (next : ℕ) (gs : List FunctionCode) (i : ℕ) (g : Option FunctionCode) → AllByRecursion (FunctionFits next) gs → slice_get gs i ≡ g → AllByRecursion (BlockFits next) (blocks_of g)
blocks_fit next gs i None h e = tt
blocks_fit next gs i (Some g) h e = let q : FunctionFits next g = by_get (FunctionFits next) gs i g h e in q.blocks

ops_fit : (next : ℕ) (bs : List BlockCode) (i : ℕ) (b : Option BlockCode) → AllByRecursion (BlockFits next) bs → slice_get bs i ≡ b → AllByRecursion (OpFits next) (ops_of b)
ops_fit next bs i None h e = tt
ops_fit next bs i (Some b) h e = by_get (BlockFits next) bs i b h e

op_fits : (next : ℕ) (code : Code) (f : Frame) (o : Op) → ConstantsFit next code → op_at code f ≡ Some o → OpFits next o
op_fits next code f o h e =
    let blocks : AllByRecursion (BlockFits next) (blocks_of (function_at code f)) = blocks_fit next code.functions f.function (function_at code f) h refl in
    let ops : AllByRecursion (OpFits next) (ops_of (block_at code f)) = ops_fit next (blocks_of (function_at code f)) f.block (block_at code f) blocks refl in
    by_get (OpFits next) (ops_of (block_at code f)) f.place o ops e

-- ---- the tree of a step

module _ (next : ℕ) (code : Code) (input : Text) (c : Control) (constants : ConstantsFit next code) (b : All IsByte input) (k : Fit next c.frames) where
  in_fits : (f : Frame) (og : Option FunctionCode) (oo : Option Op) → FrameFits next f → function_at code f ≡ og → op_at code f ≡ oo → TreeFits ActedFits next (script_in code input c f og oo)
  in_fits f None oo h is at = tt
  in_fits f (Some g) None h is at = tt
  in_fits f (Some g) (Some o) h is at =
      let whole : FunctionFits next g = by_get (FunctionFits next) code.functions f.function g constants is in
      if_tree ActedFits next (has_next code f o) (chain (meaning (here code g f input c.input_place) o) (λ e. tell (acted code g f c e))) (Stops Unreachable)
      (chain_fits EffectFits ActedFits next (meaning (here code g f input c.input_place) o) (λ e. tell (acted code g f c e))
      (instructions_fit next (here code g f input c.input_place) o h (op_fits next code f o constants at) b)
      (λ later e le q. tell_fits ActedFits later (acted code g f c e) (acted_fits later code g f c (frame_later next later le f h) (frames_later next later le c.frames k) (edges_later next later le g.edges whole.edges) e q)))
      tt

  of_fits : (f : Option Frame) → top c.frames ≡ f → TreeFits ActedFits next (script_of code input c f)
  of_fits None e = tt
  of_fits (Some f) e = in_fits f (function_at code f) (op_at code f) (by_get (FrameFits next) c.frames (length c.frames - 1) f k e) refl refl

  script_fits : TreeFits ActedFits next (script code input c)
  script_fits = of_fits (top c.frames) refl

-- ---- steps

finished : (code : Code) (s : State Picture) (o : Result Acted Trap × Picture) → Ending ActedFits s.memory o → Keeps s → Keeps (finish code s o).1 × (s.memory.next ≤ (finish code s o).1.memory.next)
finished code s (Ok a, m) h k = (record { frames = h.0; memory = h.1.0 }, h.1.1)
finished code s (Err t, m) h k = (record { frames = k.frames; memory = k.memory }, omega arith)

pub step_keeps : StepKeeps
step_keeps code input s constants b k =
    finished code s (outcome (script code input (control s)) s.memory)
    (tree_keeps ActedFits (script code input (control s)) s.memory (script_fits s.memory.next code input (control s) constants b k.frames) k.memory) k

going : (a : Step) (s : State Picture) (rest : End × State Picture) → Keeps s → Keeps rest.1 → Keeps (goes_on a s rest).1
going Next s rest h k = k
going (Ended n) s rest h k = h
going (Trapped t site) s rest h k = h
going (Failed f site) s rest h k = h

pub run_keeps : RunKeeps
run_keeps code input s zero constants b k = k
run_keeps code input s (suc n) constants b k =
    let one = step_keeps code input s constants b k in
    going (step code input s).0 (step code input s).1 (steps_from code input (step code input s).1 n) one.0
    (run_keeps code input (step code input s).1 n (constants_later s.memory.next (step code input s).1.memory.next one.1 code constants) b one.0)
