-- One step of the sequential machine, and its runs.
use Rattle.std.specs.Prelude.{ℕ, zero, suc, ◌+◌, ◌≤◌, ◌≡◌, ◌||◌, not, nat_lt, length, Option, None, Some, Result, Ok, Err, Bool, if◌then◌else◌}
use Rattle.int_num.specs.Integer.{Integer}
use Rattle.pv_base.specs.Outside.{Text}
use Rattle.pv_base.specs.declared.place.Site.{Site}
use Rattle.pv_base.specs.declared.want.Memory.{Memory as NoMemory}
use Rattle.ir_code.specs.declared.op.Op.{Op}
use Rattle.ir_code.specs.declared.code.BlockCode.{BlockCode}
use Rattle.ir_code.specs.declared.code.FunctionCode.{FunctionCode}
use Rattle.ir_code.specs.declared.code.Code.{Code}
use Rattle.mem_image.specs.declared.fault.Trap.{Trap as TrapWord}
use Rattle.mem_image.specs.declared.fault.Trap.TheVariants.{Unreachable}
use Rattle.mem_image.specs.declared.fault.Fault.{Fault}
use Rattle.mem_image.specs.declared.fault.Fault.TheVariants.{Trap, Check, Memory}
use Rattle.mem_image.specs.Picture.{Picture, IsPicture}
use Rattle.seq_effects.specs.declared.state.Frame.{Frame}
use Rattle.seq_machine.specs.declared.state.State.{State}
use Rattle.seq_machine.specs.declared.state.Step.{Step}
use Rattle.seq_machine.specs.declared.state.Step.TheVariants.{Next, Ended, Trap as Trapped, Failed}
use Rattle.seq_machine.specs.declared.state.End.{End}
use Rattle.seq_machine.specs.declared.state.End.TheVariants.{Ended as RunEnded, Trapped as RunTrapped, Spent}
use Rattle.seq_effects.specs.Script.{Script, Stops, tell, chain, outcome}
use Rattle.seq_machine.specs.Acts.{Control, Acted, acted, control_of, top, function_at, block_at, op_at, ops_of}
use Rattle.seq_machine.specs.Frames.{FramesOf}
use Rattle.seq_machine.specs.Owned.{OwnOf}
use Rattle.seq_machine.specs.Meaning.{Here, meaning, is_inner}

-- ---- what a step asks of the memory, and gives

abbrev pub first_of : Option BlockCode → ℕ
first_of (Some b) = b.first
first_of None = 0

-- the site of the instruction at which the frame stands: instructions are numbered through the blocks of the function
abbrev pub site_at : Code → Frame → Site
site_at code f = record { function = f.function; place = first_of (block_at code f) + f.place }

abbrev pub here : Code → FunctionCode → Frame → Text → ℕ → Here
here code g f input place = record { code = code; function = g; frame = f; site = site_at code f; input = input; place = place }

-- it does not fall off the end of its block
abbrev pub has_next : Code → Frame → Op → Bool
has_next code f o = not (is_inner o) || nat_lt (f.place + 1) (length (ops_of (block_at code f)))

-- the effect of the instruction, and then what it does
abbrev pub script_in : Code → Text → Control → Frame → Option FunctionCode → Option Op → Script Acted
script_in code input c f (Some g) (Some o) =
    if has_next code f o then chain (meaning (here code g f input c.input_place) o) (λ e. tell (acted code g f c e)) else Stops Unreachable
script_in code input c f None o = Stops Unreachable
script_in code input c f (Some g) None = Stops Unreachable

abbrev pub script_of : Code → Text → Control → Option Frame → Script Acted
script_of code input c (Some f) = script_in code input c f (function_at code f) (op_at code f)
script_of code input c None = Stops Unreachable

abbrev pub script : Code → Text → Control → Script Acted
script code input c = script_of code input c (top c.frames)

-- ---- one step

abbrev pub site_of : Code → Option Frame → Site
site_of code (Some f) = site_at code f
site_of code None = record { function = 0; place = 0 }

abbrev pub control : {M : Type 0} → State M → Control
control s = control_of s.frames s.input_place s.output

abbrev pub step_word : Option Integer → Step
step_word None = Next
step_word (Some n) = Ended n

-- a trap changes nothing but the count of steps
abbrev pub finish : Code → State Picture → Result Acted TrapWord × Picture → Step × State Picture
finish code s (Ok a, m) = (step_word a.ended, record { frames = a.control.frames; memory = m; input_place = a.control.input_place; output = a.control.output; steps = s.steps + 1 })
finish code s (Err t, m) = (Trapped t (site_of code (top s.frames)), record s { steps = s.steps + 1 })

-- one step of the sequential machine
abbrev pub step : Code → Text → State Picture → Step × State Picture
step code input s = finish code s (outcome (script code input (control s)) s.memory)

-- ---- a step of the code, over any memory

-- the state with the image that its memory stands for
abbrev pub stands : {M : Type 0} → (M → Picture) → State M → State Picture
stands image s = record { frames = s.frames; memory = image s.memory; input_place = s.input_place; output = s.output; steps = s.steps }

-- what the code leaves of a step, as a tree gives it
abbrev pub shown : {M : Type 0} → State M → Result Step NoMemory → Result Acted Fault
shown s (Ok Next) = Ok (record { control = control s; ended = None })
shown s (Ok (Ended n)) = Ok (record { control = control s; ended = Some n })
shown s (Ok (Trapped t site)) = Err (Trap t)
shown s (Ok (Failed f site)) = Err (Check f)
shown s (Err e) = Err Memory

-- the step's answer and the state after it: as on an image, but a check or a lack of memory leaves the state
abbrev pub StepsTo : Code → Text → State Picture → Result Step NoMemory → State Picture → Type 0
StepsTo code input old (Ok Next) new = step code input old ≡ (Next, new)
StepsTo code input old (Ok (Ended n)) new = step code input old ≡ (Ended n, new)
StepsTo code input old (Ok (Trapped t site)) new = step code input old ≡ (Trapped t site, new)
StepsTo code input old (Ok (Failed f site)) new = (new ≡ old) × (site ≡ site_of code (top old.frames))
StepsTo code input old (Err e) new = new ≡ record old { memory = new.memory }

-- the step's answer
abbrev pub settled : Site → Result (Option Integer) Fault → Result Step NoMemory
settled site (Ok n) = Ok (step_word n)
settled site (Err (Trap t)) = Ok (Trapped t site)
settled site (Err (Check f)) = Ok (Failed f site)
settled site (Err Memory) = Err (record {})

-- a check or a lack of memory counts no step
abbrev pub counted : Result (Option Integer) Fault → ℕ → ℕ
counted (Ok n) steps = steps + 1
counted (Err (Trap t)) steps = steps + 1
counted (Err (Check f)) steps = steps
counted (Err Memory) steps = steps

-- ---- runs

-- steps are taken until one ends or traps
abbrev pub goes_on : Step → State Picture → End × State Picture → End × State Picture
goes_on Next s rest = rest
goes_on (Ended n) s rest = (RunEnded n, s)
goes_on (Trapped t site) s rest = (RunTrapped t site, s)
goes_on (Failed f site) s rest = (Spent, s)

-- at most so many steps from a state; a run that neither ended nor trapped by then is spent
abbrev pub steps_from : Code → Text → State Picture → ℕ → End × State Picture
steps_from code input s zero = (Spent, s)
steps_from code input s (suc n) = goes_on (step code input s).0 (step code input s).1 (steps_from code input (step code input s).1 n)

-- the state after at most so many steps, none of which ended the run or trapped
pub record IsAhead (code : Code) (input : Text) (s : State Picture) (n : ℕ) (t : State Picture) : Type 0 where
  pub count : ℕ
  pub within : count ≤ n
  pub reached : steps_from code input s count ≡ (Spent, t)

-- ---- a state of the module

-- The frames are of the code; the names of the memory rise and are below the next; and what the frames own are live stack
-- slots, each in one place of one frame.
pub record StateOf (code : Code) (s : State Picture) : Type 0 where
  pub frames : FramesOf code s.frames
  pub memory : IsPicture s.memory
  pub own : OwnOf s.frames s.memory
