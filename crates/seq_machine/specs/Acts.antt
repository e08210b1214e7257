-- What an effect does to the frames, to the place in the input and to the output.
use Rattle.std.specs.Prelude.{ℕ, ◌+◌, ◌-◌, ◌≡◌, ◌==◌, nat_lt, pos, List, [], ◌∷◌, ◌++◌, length, take, slice_get, slice_set, Option, None, Some, Result, Ok, Err, true, if◌then◌else◌}
use Rattle.int_num.specs.Integer.{Integer}
use Rattle.int_num.specs.Operations.{of_bits}
use Rattle.pv_base.specs.Outside.{Text}
use Rattle.ir_code.specs.declared.op.Scalar.{Scalar}
use Rattle.ir_code.specs.declared.op.Op.{Op}
use Rattle.ir_code.specs.declared.op.Op.TheVariants.{Call, CallPointer}
use Rattle.ir_code.specs.declared.code.Move.{Move}
use Rattle.ir_code.specs.declared.code.Edge.{Edge as EdgeCode}
use Rattle.ir_code.specs.declared.code.BlockCode.{BlockCode}
use Rattle.ir_code.specs.declared.code.FunctionCode.{FunctionCode}
use Rattle.ir_code.specs.declared.code.Code.{Code}
use Rattle.mem_image.specs.declared.object.Pointer.TheVariants.{Obj}
use Rattle.mem_image.specs.declared.fault.Trap.{Trap}
use Rattle.mem_image.specs.declared.fault.Trap.TheVariants.{Unreachable, Depth, Output}
use Rattle.seq_effects.specs.declared.state.Value.{Value}
use Rattle.seq_effects.specs.declared.state.Value.TheVariants.{Int, Pointer}
use Rattle.seq_effects.specs.declared.state.Frame.{Frame}
use Rattle.seq_effects.specs.declared.state.Effect.{Effect}
use Rattle.seq_effects.specs.declared.state.Effect.TheVariants.{Next, Give, Keep, Edge, Enter, Back, Exit, Print, Take}
use Rattle.seq_effects.specs.Values.{then_, where_, operand, may_hold, Holds, AreOf}
use Rattle.seq_effects.specs.Flow.{may_stand}

-- ---- where a frame stands

abbrev pub blocks_of : Option FunctionCode → List BlockCode
blocks_of (Some g) = g.blocks
blocks_of None = []

abbrev pub types_of : Option FunctionCode → List Scalar
types_of (Some g) = g.registers
types_of None = []

abbrev pub ops_of : Option BlockCode → List Op
ops_of (Some b) = b.ops
ops_of None = []

abbrev pub phis_of : Option BlockCode → ℕ
phis_of (Some b) = b.phis
phis_of None = 0

abbrev pub function_at : Code → Frame → Option FunctionCode
function_at code f = slice_get code.functions f.function

abbrev pub block_at : Code → Frame → Option BlockCode
block_at code f = slice_get (blocks_of (function_at code f)) f.block

-- the instruction at which the frame stands
abbrev pub op_at : Code → Frame → Option Op
op_at code f = slice_get (ops_of (block_at code f)) f.place

abbrev pub top : List Frame → Option Frame
top frames = slice_get frames (length frames - 1)

abbrev pub with_top : List Frame → Frame → List Frame
with_top frames f = slice_set frames (length frames - 1) f

-- ---- the top frame

abbrev pub next : Frame → Frame
next f = record f { place = f.place + 1 }

abbrev pub put : Frame → ℕ → Value → Frame
put f to v = record f { place = f.place + 1; registers = slice_set f.registers to (Some v) }

abbrev pub keep : Frame → ℕ → ℕ → Frame
keep f to name = record f { place = f.place + 1; registers = slice_set f.registers to (Some (Pointer (Obj name (pos 0)))); own = f.own ++ name ∷ [] }

-- the frame after it made a stack object, which it keeps or is given
abbrev pub slotted : Frame → Effect → Frame
slotted f (Keep to name) = keep f to name
slotted f (Give to v) = put f to v
slotted f _ = f

abbrev pub put_if : Frame → Option ℕ → Value → Frame
put_if f None v = next f
put_if f (Some to) v = put f to v

-- what a phi takes, which its register may hold
abbrev pub move_value : FunctionCode → Frame → Move → Result Value Trap
move_value g f m = then_ (operand f m.value) (λ v. where_ (may_hold (slice_get g.registers m.register) v) v)

-- all of them, before any is set
abbrev pub move_values : FunctionCode → Frame → List Move → Result (List Value) Trap
move_values g f [] = Ok []
move_values g f (m ∷ ms) = then_ (move_value g f m) (λ v. then_ (move_values g f ms) (λ vs. Ok (v ∷ vs)))

abbrev pub set_moves : List Move → List Value → List (Option Value) → List (Option Value)
set_moves [] vs registers = registers
set_moves (m ∷ ms) [] registers = registers
set_moves (m ∷ ms) (v ∷ vs) registers = set_moves ms vs (slice_set registers m.register (Some v))

-- as many values as moves, each for its register
pub record MovesHold (types : List Scalar) (moves : List Move) (values : List Value) : Type 0 where
  pub count : length values ≡ length moves
  pub each : (i : ℕ) (m : Move) (v : Value) → slice_get moves i ≡ Some m → slice_get values i ≡ Some v → Holds types m.register v

-- at the first instruction of the block after its phis
abbrev pub arrived : FunctionCode → Frame → EdgeCode → List Value → Frame
arrived g f e vs = record f { block = e.to; place = phis_of (slice_get g.blocks e.to); registers = set_moves e.moves vs f.registers }

abbrev pub taken : FunctionCode → Frame → Option EdgeCode → Result Frame Trap
taken g f (Some e) = if may_stand (slice_get g.blocks e.to) then then_ (move_values g f e.moves) (λ vs. Ok (arrived g f e vs)) else Err Unreachable
taken g f None = Err Unreachable

-- the top frame stands at the start of a block of its function, with registers of their types
pub record Stands (g : FunctionCode) (f : Frame) (frames : List Frame) (after : List Frame) : Type 0 where
  pub frame : Frame
  pub is_top : after ≡ with_top frames frame
  pub function : frame.function ≡ f.function
  pub stands : may_stand (slice_get g.blocks frame.block) ≡ true
  pub place : frame.place ≡ phis_of (slice_get g.blocks frame.block)
  pub registers : AreOf g.registers frame.registers

-- ---- calls and returns

-- so many frames may stand
unfoldable pub frame_limit : ℕ
frame_limit = 4096

-- a frame at the start of a function
abbrev pub entered : Code → ℕ → List (Option Value) → Frame
entered code k registers = record { function = k; block = 0; place = phis_of (slice_get (blocks_of (slice_get code.functions k)) 0); registers = registers; own = [] }

-- the register that a call gives its result to
abbrev pub result_register : Option Op → Option ℕ
result_register (Some (Call to k arguments)) = to
result_register (Some (CallPointer to p result parameters arguments)) = to
result_register _ = None

abbrev pub put_result : Frame → Option ℕ → Option Value → Frame
put_result f None v = next f
put_result f (Some to) None = next f
put_result f (Some to) (Some v) = put f to v

-- the caller after the call at which it stands
abbrev pub resumed : Code → Frame → Option Value → Frame
resumed code f v = put_result f (result_register (op_at code f)) v

abbrev pub resumed_top : Code → List Frame → Option Value → Option Frame → List Frame
resumed_top code frames v (Some f) = with_top frames (resumed code f v)
resumed_top code frames v None = frames

abbrev pub without_top : List Frame → List Frame
without_top frames = take (length frames - 1) frames

-- the number that ends a run; `main` returns one
abbrev pub exit_number : Option Value → Integer
exit_number (Some (Int n)) = n
exit_number (Some (Pointer p)) = of_bits 32 0
exit_number None = of_bits 32 0

-- ---- all of it

-- a state without its memory and its count
pub record Control : Type 0 where
  pub frames : List Frame
  pub input_place : ℕ
  pub output : Text

-- and the number that ended the run, where it did
pub record Acted : Type 0 where
  pub control : Control
  pub ended : Option Integer

abbrev pub control_of : List Frame → ℕ → Text → Control
control_of frames place output = record { frames = frames; input_place = place; output = output }

abbrev pub acted_of : List Frame → ℕ → Text → Option Integer → Acted
acted_of frames place output ended = record { control = control_of frames place output; ended = ended }

abbrev pub going_on : Control → Acted
going_on c = record { control = c; ended = None }

abbrev pub ending : Control → Integer → Acted
ending c n = record { control = c; ended = Some n }

abbrev pub on_top : Control → Frame → Acted
on_top c f = going_on (record c { frames = with_top c.frames f })

-- a frame that owns nothing more
abbrev pub bare : Frame → Frame
bare f = record f { own = [] }

abbrev pub bare_top : List Frame → Option Frame → List Frame
bare_top frames (Some f) = with_top frames (bare f)
bare_top frames None = frames

-- from the first frame a return ends the run; the frame stays, and owns nothing more
abbrev pub back : Code → Control → Option Value → Acted
back code c v =
    if length c.frames == 1
    then ending (record c { frames = bare_top c.frames (top c.frames) }) (exit_number v)
    else going_on (record c { frames = resumed_top code (without_top c.frames) v (top (without_top c.frames)) })

-- no more bytes are printed
unfoldable pub output_limit : ℕ
output_limit = 16777216

-- what an effect does, where f is the top frame and g its function
abbrev pub acted : Code → FunctionCode → Frame → Control → Effect → Result Acted Trap
acted code g f c Next = Ok (on_top c (next f))
acted code g f c (Give to v) = Ok (on_top c (put f to v))
acted code g f c (Keep to name) = Ok (on_top c (keep f to name))
acted code g f c (Edge i) = then_ (taken g f (slice_get g.edges i)) (λ f'. Ok (on_top c f'))
acted code g f c (Enter k registers) =
    if nat_lt (length c.frames) frame_limit then Ok (going_on (record c { frames = c.frames ++ entered code k registers ∷ [] })) else Err Depth
acted code g f c (Back v) = Ok (back code c v)
acted code g f c (Exit n) = Ok (ending c n)
acted code g f c (Print text to v) =
    if nat_lt output_limit (length c.output + length text) then Err Output
    else Ok (going_on (record c { frames = with_top c.frames (put_if f to v); output = c.output ++ text }))
acted code g f c (Take place to v) = Ok (going_on (record c { frames = with_top c.frames (put_if f to v); input_place = place }))
