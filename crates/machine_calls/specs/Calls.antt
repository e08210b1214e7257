-- Calls on states of the machine.
use Rattle.std.specs.Prelude.{◌≡◌, ℕ, ◌+◌, List, slice_set, Option, None, Some}
use Rattle.ir_code.specs.declared.op.Op.{Op}
use Rattle.ir_code.specs.declared.op.Op.TheVariants as op
use Rattle.ir_code.specs.declared.code.Code.{Code}
use Rattle.seq_effects.specs.declared.state.Value.{Value}
use Rattle.seq_effects.specs.declared.state.Frame.{Frame}
use Rattle.seq_effects.specs.Values.{Holds}
use Rattle.seq_machine.specs.declared.state.State.{State}
use Rattle.seq_machine.specs.Frames.{HasMore}
use Rattle.seq_machine.specs.Acts.{top, with_top, next, function_at, types_of, op_at}

-- the instruction at which the frame stands
abbrev pub op_of : Code → Option Frame → Option Op
op_of code (Some f) = op_at code f
op_of code None = None

-- another instruction follows in the block in which the top frame stands
abbrev pub MoreIn : Code → List Frame → Type 0
MoreIn code frames = (f : Frame) → top frames ≡ Some f → HasMore code f

-- ---- changes of the top frame

-- the top frame, which is this one, changes
abbrev pub changed_from : (Frame → Frame) → List Frame → Option Frame → List Frame
changed_from change frames (Some f) = with_top frames (change f)
changed_from change frames None = frames

-- the top frame changes, where there is one
abbrev pub with_changed : (Frame → Frame) → List Frame → List Frame
with_changed change frames = changed_from change frames (top frames)

-- the instruction at which the top frame stands is passed over, and its step is counted
abbrev pub passed_over : {M : Type 0} → State M → State M
passed_over s = record s { frames = with_changed next s.frames; steps = s.steps + 1 }

-- a register of the frame holds the value, or none
abbrev pub with_register : ℕ → Option Value → Frame → Frame
with_register to v f = record f { registers = slice_set f.registers to v }

-- the same of the top frame
abbrev pub register_set : {M : Type 0} → ℕ → Option Value → State M → State M
register_set to v s = record s { frames = with_changed (with_register to v) s.frames }

-- the register of the top frame may hold the value
abbrev pub MayHold : Code → List Frame → ℕ → Value → Type 0
MayHold code frames to v = (f : Frame) → top frames ≡ Some f → Holds (types_of (function_at code f)) to v

-- ---- instructions

-- the register that an instruction gives a result to
abbrev pub given_register : Op → Option ℕ
given_register (op.Binary to o flags left right) = Some to
given_register (op.Cast to o flags value width) = Some to
given_register (op.Freeze to value) = Some to
given_register (op.Compare to pred left right) = Some to
given_register (op.Select to c a b) = Some to
given_register op.Phi = None
given_register (op.Alloca to size) = Some to
given_register (op.Load to t p) = Some to
given_register (op.Store t v p) = None
given_register (op.Address to inbounds base indices) = Some to
given_register (op.Call to k arguments) = to
given_register (op.CallPointer to p result parameters arguments) = to
given_register (op.CallExternal to e arguments) = to
given_register (op.Return value) = None
given_register (op.Jump edge) = None
given_register (op.Branch c a b) = None
given_register (op.Switch v d cases) = None
given_register op.Unreachable = None
given_register op.Stuck = None
