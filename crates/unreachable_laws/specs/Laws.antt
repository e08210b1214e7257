-- Where a run traps `unreachable`.
use Rattle.std.specs.Prelude.{ℕ, ◌+◌, ◌≡◌, take, Some}
use Rattle.pv_base.specs.Outside.{Text}
use Rattle.pv_base.specs.declared.place.Site.{Site}
use Rattle.ir_tree.specs.declared.instruction.Instruction.TheVariants as tree
use Rattle.ir_tree.specs.Table.{IsTable}
use Rattle.ir_tree.specs.Modules.{Items}
use Rattle.ir_rules.specs.Checked.{IsChecked}
use Rattle.ir_rules.specs.Spots.{instruction_count}
use Rattle.ir_code.specs.declared.op.Op.TheVariants as op
use Rattle.ir_code.specs.declared.code.Code.{Code}
use Rattle.ir_code.specs.Coding.{code_of}
use Rattle.mem_image.specs.declared.fault.Trap.TheVariants.{Unreachable}
use Rattle.mem_image.specs.Picture.{Picture}
use Rattle.seq_effects.specs.declared.state.Frame.{Frame}
use Rattle.seq_machine.specs.declared.state.State.{State}
use Rattle.seq_machine.specs.declared.state.End.TheVariants.{Trapped}
use Rattle.seq_machine.specs.Acts.{op_at}
use Rattle.seq_machine.specs.Step.{step, steps_from, site_at}
use Rattle.seq_run.specs.First.{first_state}
use Rattle.resolving_laws.specs.Places.{StandsAt}
use Rattle.unreachable_laws.specs.Typing.{CodeTyped}
use Rattle.unreachable_laws.specs.States.{FrameTyped, FramesTyped}

-- ---- codes

-- a frame stands at an instruction `unreachable` of this site
pub record StandsUnreachable (code : Code) (site : Site) : Type 0 where
  pub frame : Frame
  pub typed : FrameTyped code frame
  pub is : op_at code frame ≡ Some op.Unreachable
  pub here : site ≡ site_at code frame

-- a step of a typed code leaves typed frames
abbrev pub StepKeepsTyped : Type 0
StepKeepsTyped = (code : Code) (input : Text) (s : State Picture) → CodeTyped code → FramesTyped code s.frames → FramesTyped code (step code input s).1.frames

-- from such frames a run traps `unreachable` at an instruction `unreachable` alone
abbrev pub TypedRunsStop : Type 0
TypedRunsStop = (code : Code) (input : Text) (s : State Picture) (n : ℕ) (site : Site) → CodeTyped code → FramesTyped code s.frames → (steps_from code input s n).0 ≡ Trapped Unreachable site → StandsUnreachable code site

-- ---- programs

-- the first frame of a checked module is typed
abbrev pub FirstIsTyped : Type 0
FirstIsTyped = (m : Items) → IsTable m.names → IsChecked m → FramesTyped (code_of m) (first_state m).frames

-- an instruction `unreachable` of the module stands at this site
pub record IsUnreachableAt (m : Items) (site : Site) : Type 0 where
  pub function : ℕ
  pub block : ℕ
  pub place : ℕ
  pub stands : StandsAt m function block place
  pub is : stands.instruction ≡ tree.Unreachable
  pub here : site ≡ record { function = function; place = instruction_count (take block stands.function.blocks) + place }

-- where a frame of a checked module's code stands at `unreachable`, the module has it
abbrev pub UnreachableIsThere : Type 0
UnreachableIsThere = (m : Items) → IsTable m.names → IsChecked m → (site : Site) → StandsUnreachable (code_of m) site → IsUnreachableAt m site

-- so the run of a checked module whose code is typed traps `unreachable` at one of its instructions `unreachable` alone
abbrev pub TypedProgramsStop : Type 0
TypedProgramsStop = (m : Items) → IsTable m.names → IsChecked m → CodeTyped (code_of m) → (input : Text) (n : ℕ) (site : Site) → (steps_from (code_of m) input (first_state m) n).0 ≡ Trapped Unreachable site → IsUnreachableAt m site
