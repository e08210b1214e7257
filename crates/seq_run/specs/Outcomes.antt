-- What a run leaves.
use Rattle.std.specs.Prelude.{ℕ, ◌+◌, List, [], ◌∷◌, if◌then◌else◌}
use Rattle.pv_base.specs.Outside.{Text}
use Rattle.ir_tree.specs.declared.items.Global.{Global as Variable}
use Rattle.ir_tree.specs.Modules.{Items}
use Rattle.ir_code.specs.Coding.{code_of}
use Rattle.mem_image.specs.declared.object.Object.{Object}
use Rattle.mem_image.specs.Picture.{Picture, bytes_at}
use Rattle.seq_machine.specs.declared.state.State.{State}
use Rattle.seq_machine.specs.declared.state.End.{End}
use Rattle.seq_machine.specs.declared.state.GlobalBytes.{GlobalBytes}
use Rattle.seq_machine.specs.declared.state.Outcome.{Outcome}
use Rattle.seq_machine.specs.Step.{steps_from}
use Rattle.seq_run.specs.First.{first_state}

-- the bytes of the globals that are no constants, the first of these globals being number i; no bytes where there is no such
-- object
abbrev pub global_bytes : List Object → ℕ → List (Variable ℕ ℕ ℕ) → List GlobalBytes
global_bytes objects i [] = []
global_bytes objects i (g ∷ gs) = if g.constant then global_bytes objects (i + 1) gs else record { global = i; bytes = bytes_at i objects } ∷ global_bytes objects (i + 1) gs

-- the end, the output, the bytes of every global that is no constant, in order, and the steps
abbrev pub outcome_of : Items → End × State Picture → Outcome
outcome_of m r = record { end = r.0; output = r.1.output; globals = global_bytes r.1.memory.objects 0 m.globals; steps = r.1.steps }

-- the sequential run: steps from the first state until one ends or traps, or so many were taken
abbrev pub outcome_of_run : Items → Text → ℕ → Outcome
outcome_of_run m input n = outcome_of m (steps_from (code_of m) input (first_state m) n)
