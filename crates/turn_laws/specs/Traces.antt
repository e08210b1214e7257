-- What the steps of a run, and those of a turn, do to memory: the events of each step, one step after another.
use Rattle.std.specs.Prelude.{ℕ, zero, suc, List, [], ◌++◌, length}
use Rattle.pv_base.specs.Outside.{Text}
use Rattle.ir_code.specs.declared.code.Code.{Code}
use Rattle.mem_image.specs.Picture.{Picture}
use Rattle.seq_machine.specs.declared.state.State.{State}
use Rattle.seq_machine.specs.declared.state.Step.{Step}
use Rattle.seq_machine.specs.declared.state.Step.TheVariants as step
use Rattle.seq_machine.specs.Step.{step as one_step, script, control}
use Rattle.turn_laws.specs.Events.{Event, Access, logged, accesses_of}
use Rattle.turn_laws.specs.Turns.{Loop, Standing, AtHeader, Within, Outside, standing, TurnEnd, Arrived, Left, Ended, Trapped, Spent, turn_from}

-- an instruction that traps did what its calls did before
abbrev pub step_log : Code → Text → State Picture → List Event
step_log code input s = (logged (script code input (control s)) s.memory).log

-- nothing comes after the step that ends a run
abbrev pub log_goes : Step → List Event → List Event
log_goes step.Next rest = rest
log_goes (step.Ended n) rest = []
log_goes (step.Trap t site) rest = []
log_goes (step.Failed f site) rest = []

-- of at most so many steps from a state
abbrev pub run_log : Code → Text → State Picture → ℕ → List Event
run_log code input s zero = []
run_log code input s (suc n) = step_log code input s ++ log_goes (one_step code input s).0 (run_log code input (one_step code input s).1 n)

-- nor after the step that ends a turn
abbrev pub log_within : Standing → List Event → List Event
log_within AtHeader rest = []
log_within Within rest = rest
log_within Outside rest = []

-- of the turn of at most so many steps from a state, in the frame at this depth
abbrev pub turn_log : Code → Text → Loop → ℕ → State Picture → ℕ → List Event
turn_log code input l depth s zero = []
turn_log code input l depth s (suc n) =
    step_log code input s ++ log_goes (one_step code input s).0 (log_within (standing code l depth (one_step code input s).1.frames) (turn_log code input l depth (one_step code input s).1 n))

-- a further turn begins where one arrived
abbrev pub log_arrived : TurnEnd → List Event → List Event
log_arrived Arrived rest = rest
log_arrived Left rest = []
log_arrived (Ended n) rest = []
log_arrived (Trapped t site) rest = []
log_arrived Spent rest = []

-- of so many turns, each of at most n steps
abbrev pub turns_log : Code → Text → Loop → ℕ → ℕ → State Picture → ℕ → List Event
turns_log code input l depth zero s n = []
turns_log code input l depth (suc c) s n =
    turn_log code input l depth s n ++ log_arrived (turn_from code input l depth s n).0 (turns_log code input l depth c (turn_from code input l depth s n).1 n)

-- the accesses of a run of at most so many steps, and of a turn that begins at a state, in its top frame
abbrev pub run_accesses : Code → Text → State Picture → ℕ → List Access
run_accesses code input s n = accesses_of (run_log code input s n)

abbrev pub turn_accesses : Code → Text → Loop → State Picture → ℕ → List Access
turn_accesses code input l s n = accesses_of (turn_log code input l (length s.frames) s n)
