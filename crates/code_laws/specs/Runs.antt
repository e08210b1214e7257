-- The first state of a module's program and what its run leaves, of its names, types and constants alone.
use Rattle.std.specs.Prelude.{ℕ, ◌+◌, List, [], ◌∷◌, if◌then◌else◌}
use Rattle.pv_base.specs.Outside.{Text}
use Rattle.ir_rules.specs.Seen.{ModuleV, GlobalV}
use Rattle.mem_image.specs.declared.object.Object.{Object}
use Rattle.mem_image.specs.Picture.{Picture, bytes_at}
use Rattle.seq_machine.specs.declared.state.State.{State}
use Rattle.seq_machine.specs.declared.state.End.{End}
use Rattle.seq_machine.specs.declared.state.GlobalBytes.{GlobalBytes}
use Rattle.seq_machine.specs.declared.state.Outcome.{Outcome}
use Rattle.seq_machine.specs.Step.{steps_from}
use Rattle.seq_run.specs.First.{first_frames}
use Rattle.code_laws.specs.Coded.{module_code}
use Rattle.code_laws.specs.Pictured.{module_picture}

-- the globals with their first bytes, a frame of `main`, nothing read, nothing printed, and no steps taken
abbrev pub module_state : ModuleV → State Picture
module_state v = record { frames = first_frames (module_code v) (module_code v).main; memory = module_picture v; input_place = 0; output = []; steps = 0 }

-- the bytes of the globals that are no constants, the first of these globals being number i; no bytes where there is no such
-- object
abbrev pub variable_bytes : List Object → ℕ → List GlobalV → List GlobalBytes
variable_bytes objects i [] = []
variable_bytes objects i (g ∷ gs) = if g.constant then variable_bytes objects (i + 1) gs else record { global = i; bytes = bytes_at i objects } ∷ variable_bytes objects (i + 1) gs

-- the end, the output, the bytes of every global that is no constant, in order, and the steps
abbrev pub left_by : ModuleV → End × State Picture → Outcome
left_by v r = record { end = r.0; output = r.1.output; globals = variable_bytes r.1.memory.objects 0 v.globals; steps = r.1.steps }

-- the sequential run: steps from the first state until one ends or traps, or so many were taken
abbrev pub module_outcome : ModuleV → Text → ℕ → Outcome
module_outcome v input n = left_by v (steps_from (module_code v) input (module_state v) n)
