-- A run keeps the globals of its program alive.
use Rattle.std.specs.Prelude.{ℕ, ◌≡◌, ◌≤◌, length, slice_get, Some}
use Rattle.pv_base.specs.Outside.{Text}
use Rattle.ir_tree.specs.declared.items.Global.{Global as Variable}
use Rattle.ir_tree.specs.Modules.{Items}
use Rattle.ir_tree.specs.Naming.{constant_at}
use Rattle.ir_rules.specs.Checked.{IsChecked}
use Rattle.ir_code.specs.declared.code.Code.{Code}
use Rattle.ir_code.specs.Coding.{code_of}
use Rattle.ir_bytes.specs.Initial.{first_picture}
use Rattle.mem_image.specs.Picture.{Picture, IsPicture, name_limit}
use Rattle.seq_machine.specs.declared.state.State.{State}
use Rattle.seq_machine.specs.declared.state.GlobalBytes.{GlobalBytes}
use Rattle.seq_machine.specs.Owned.{OwnOf}
use Rattle.seq_machine.specs.Step.{step as one_step, steps_from, StateOf}
use Rattle.seq_run.specs.First.{first_state}
use Rattle.seq_run.specs.Outcomes.{outcome_of_run}
use Rattle.global_laws.specs.Globals.{KeepsGlobals}
use Rattle.global_laws.specs.Filled.{IsFound}
use Rattle.global_laws.specs.Programs.{HasGlobals, IsOfGlobal}

-- ---- states

-- What a step needs of a state to keep the globals, and leaves of it: names rise below the next, and what the frames own are live
-- stack slots, each in one place of one frame.
pub record IsOwned (s : State Picture) : Type 0 where
  pub memory : IsPicture s.memory
  pub own : OwnOf s.frames s.memory

-- every state of a code is so
abbrev pub StatesAreOwned : Type 0
StatesAreOwned = (code : Code) (s : State Picture) → StateOf code s → IsOwned s

-- a step, and a run, however many steps it takes, leave it so
abbrev pub StepKeepsOwned : Type 0
StepKeepsOwned = (code : Code) (input : Text) (s : State Picture) → IsOwned s → IsOwned (one_step code input s).1

abbrev pub RunKeepsOwned : Type 0
RunKeepsOwned = (code : Code) (input : Text) (n : ℕ) (s : State Picture) → IsOwned s → IsOwned (steps_from code input s n).1

-- a step, and a run, however many steps it takes, keep the globals, whichever memory was the first
abbrev pub StepKeepsGlobals : Type 0
StepKeepsGlobals = (code : Code) (input : Text) (first : Picture) (s : State Picture) → IsOwned s → KeepsGlobals first s.memory → KeepsGlobals first (one_step code input s).1.memory

abbrev pub RunKeepsGlobals : Type 0
RunKeepsGlobals = (code : Code) (input : Text) (n : ℕ) (first : Picture) (s : State Picture) → IsOwned s → KeepsGlobals first s.memory → KeepsGlobals first (steps_from code input s n).1.memory

-- ---- programs

-- the globals of a checked module, no more than a memory has names, stand in every memory that its program comes to, and no
-- others do
abbrev pub ProgramKeepsGlobals : Type 0
ProgramKeepsGlobals = (m : Items) (input : Text) (n : ℕ) → length m.globals ≤ name_limit → IsChecked m → KeepsGlobals (first_picture m) (steps_from (code_of m) input (first_state m) n).1.memory

-- each stands there under its number
abbrev pub ProgramHasGlobals : Type 0
ProgramHasGlobals = (m : Items) (input : Text) (n : ℕ) → length m.globals ≤ name_limit → IsChecked m → HasGlobals m (steps_from (code_of m) input (first_state m) n).1.memory

-- each name and each address in the initialisers of a checked module is found
abbrev pub InitialisersAreFound : Type 0
InitialisersAreFound = (m : Items) → IsChecked m → (k : ℕ) (g : Variable ℕ ℕ ℕ) → slice_get m.globals k ≡ Some g → IsFound m (constant_at m.names g.init)

-- so what the run leaves has all bytes of each global that is no constant
abbrev pub OutcomeHasGlobals : Type 0
OutcomeHasGlobals = (m : Items) (input : Text) (n : ℕ) → length m.globals ≤ name_limit → IsChecked m → (k : ℕ) (e : GlobalBytes) → slice_get (outcome_of_run m input n).globals k ≡ Some e → IsOfGlobal m e
