-- Frames whose registers hold values of their types.
use Rattle.std.specs.Prelude.{ℕ, ◌+◌, ◌<◌, ◌≤◌, ◌≡◌, List, length, slice_get, Option, Some, true}
use Rattle.ir_code.specs.declared.op.Scalar.{Scalar}
use Rattle.ir_code.specs.declared.op.Op.{Op}
use Rattle.ir_code.specs.declared.code.BlockCode.{BlockCode}
use Rattle.ir_code.specs.declared.code.FunctionCode.{FunctionCode}
use Rattle.ir_code.specs.declared.code.Code.{Code}
use Rattle.seq_effects.specs.declared.state.Value.{Value}
use Rattle.seq_effects.specs.declared.state.Frame.{Frame}
use Rattle.seq_effects.specs.Values.{may_hold}
use Rattle.seq_effects.specs.Flow.{receives}
use Rattle.seq_machine.specs.Acts.{types_of, function_at, op_at, result_register}
use Rattle.seq_machine.specs.Frames.{HasMore}

-- each register that is set holds a value of its type: an integer of its width, or a pointer
abbrev pub RegistersTyped : List Scalar → List (Option Value) → Type 0
RegistersTyped types registers = (i : ℕ) (v : Value) → slice_get registers i ≡ Some (Some v) → may_hold (slice_get types i) v ≡ true

-- the frame stands at an instruction of the code behind the phis of its block
pub record FrameTyped (code : Code) (f : Frame) : Type 0 where
  pub function : FunctionCode
  pub block : BlockCode
  pub op : Op
  pub function_is : slice_get code.functions f.function ≡ Some function
  pub block_is : slice_get function.blocks f.block ≡ Some block
  pub op_is : slice_get block.ops f.place ≡ Some op
  pub behind : block.phis ≤ f.place
  pub registers : RegistersTyped function.registers f.registers

-- the frame may go on behind its instruction, whose register may hold the result of the function
pub record Waits (code : Code) (f : Frame) (k : ℕ) : Type 0 where
  pub more : HasMore code f
  pub result : (g : FunctionCode) → slice_get code.functions k ≡ Some g → receives (types_of (function_at code f)) (result_register (op_at code f)) g.result ≡ true

-- there is a frame, and each waits for the next
pub record FramesTyped (code : Code) (frames : List Frame) : Type 0 where
  pub filled : 0 < length frames
  pub each : (i : ℕ) (f : Frame) → slice_get frames i ≡ Some f → FrameTyped code f
  pub waits : (i : ℕ) (f g : Frame) → slice_get frames i ≡ Some f → slice_get frames (i + 1) ≡ Some g → Waits code f g.function
