-- The frames of a state of a module.
use Rattle.std.specs.Prelude.{ℕ, ◌+◌, ◌<◌, ◌≤◌, ◌≡◌, pos, List, length, slice_get, Option, None, Some, true}
use Rattle.ir_code.specs.declared.op.Scalar.{Scalar}
use Rattle.ir_code.specs.declared.op.Op.{Op}
use Rattle.ir_code.specs.declared.op.Op.TheVariants.{Call, CallPointer}
use Rattle.ir_code.specs.declared.code.FunctionCode.{FunctionCode}
use Rattle.ir_code.specs.declared.code.Code.{Code}
pub use Rattle.ir_code.specs.Fitting.{CodeFits as CodeOk}
use Rattle.mem_image.specs.declared.object.Pointer.TheVariants.{Obj}
use Rattle.seq_effects.specs.declared.state.Value.{Value}
use Rattle.seq_effects.specs.declared.state.Value.TheVariants.{Pointer}
use Rattle.seq_effects.specs.declared.state.Frame.{Frame}
use Rattle.seq_effects.specs.declared.state.Effect.{Effect}
use Rattle.seq_effects.specs.declared.state.Effect.TheVariants.{Next, Give, Keep, Edge, Enter, Back, Exit, Print, Take}
use Rattle.seq_effects.specs.Values.{AreOf, Holds, HoldsIf}
use Rattle.seq_effects.specs.Flow.{receives, has_type, Enters, IsResult}
use Rattle.seq_machine.specs.Acts.{blocks_of, types_of, ops_of, phis_of, function_at, block_at, op_at}

-- the frame stands at an instruction of the code that is no phi, and its registers have their types
pub record FrameOf (code : Code) (f : Frame) : Type 0 where
  pub function : f.function < length code.functions
  pub block : f.block < length (blocks_of (function_at code f))
  pub phis : phis_of (block_at code f) ≤ f.place
  pub place : f.place < length (ops_of (block_at code f))
  pub registers : AreOf (types_of (function_at code f)) f.registers

-- another instruction follows in the block
abbrev pub HasMore : Code → Frame → Type 0
HasMore code f = f.place + 1 < length (ops_of (block_at code f))

-- the caller's register may hold the result of the function
abbrev pub Receives : Code → List Scalar → Option ℕ → ℕ → Type 0
Receives code types to k = (g : FunctionCode) → slice_get code.functions k ≡ Some g → receives types to g.result ≡ true

-- the instruction calls the function, at its type
abbrev pub Calls : Code → List Scalar → Option Op → ℕ → Type 0
Calls code types (Some (Call to function arguments)) k = (function ≡ k) × Receives code types to k
Calls code types (Some (CallPointer to p result parameters arguments)) k = (has_type result parameters (slice_get code.functions k) ≡ true) × Receives code types to k
Calls code types _ k = ⊥

-- the frame waits for a frame of the function to return
pub record Awaits (code : Code) (f : Frame) (k : ℕ) : Type 0 where
  pub more : HasMore code f
  pub calls : Calls code (types_of (function_at code f)) (op_at code f) k

-- there is a frame, the first is one of `main`, and each waits for the next
pub record FramesOf (code : Code) (frames : List Frame) : Type 0 where
  pub filled : 0 < length frames
  pub each : (i : ℕ) (f : Frame) → slice_get frames i ≡ Some f → FrameOf code f
  pub waits : (i : ℕ) (f g : Frame) → slice_get frames i ≡ Some f → slice_get frames (i + 1) ≡ Some g → Awaits code f g.function
  pub first : (f : Frame) → slice_get frames 0 ≡ Some f → code.main ≡ Some f.function

abbrev pub result_of : Option FunctionCode → Option Scalar
result_of (Some g) = g.result
result_of None = None

-- the caller's register, where there is one, may hold the value, where there is one
abbrev pub HoldsResult : List Scalar → Option ℕ → Option Value → Type 0
HoldsResult types None v = Unit {0}
HoldsResult types (Some to) None = Unit {0}
HoldsResult types (Some to) (Some v) = Holds types to v

-- an effect that leaves such frames, where f is the top one
abbrev pub EffectOf : Code → Frame → Effect → Type 0
EffectOf code f Next = HasMore code f
EffectOf code f (Give to v) = HasMore code f × Holds (types_of (function_at code f)) to v
EffectOf code f (Keep to name) = HasMore code f × Holds (types_of (function_at code f)) to (Pointer (Obj name (pos 0)))
EffectOf code f (Edge e) = Unit {0}
EffectOf code f (Enter k registers) = Awaits code f k × ((to : Option ℕ) × Enters code (types_of (function_at code f)) to k registers)
EffectOf code f (Back v) = IsResult (result_of (function_at code f)) v
EffectOf code f (Exit n) = Unit {0}
EffectOf code f (Print text to v) = HasMore code f × HoldsIf (types_of (function_at code f)) to v
EffectOf code f (Take place to v) = HasMore code f × HoldsIf (types_of (function_at code f)) to v
