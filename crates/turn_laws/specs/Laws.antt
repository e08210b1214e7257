-- Laws of trees over any memory, of turns and of what they do to memory.
use Rattle.std.specs.Prelude.{ℕ, suc, ◌+◌, ◌≡◌, ◌≢◌, ◌≤◌, ◌<◌, ◌↔◌, List, [], ◌∷◌, ◌++◌, length, Some, Result, Ok}
use Rattle.std.specs.List.{AllByRecursion}
use Rattle.pv_base.specs.Outside.{Text}
use Rattle.pv_base.specs.declared.place.Site.{Site}
use Rattle.ir_code.specs.declared.op.Op.{Op}
use Rattle.ir_code.specs.declared.code.Code.{Code}
use Rattle.mem_image.specs.declared.fault.Fault.{Fault}
use Rattle.mem_image.specs.Picture.{Picture}
use Rattle.mem_image.specs.Calls.{Call, Reply, does}
use Rattle.seq_effects.specs.Script.{Script, outcome, chain, Follows}
use Rattle.seq_effects.specs.declared.state.Frame.{Frame}
use Rattle.seq_machine.specs.declared.state.State.{State}
use Rattle.seq_machine.specs.declared.state.End.TheVariants as run
use Rattle.seq_machine.specs.Acts.{top}
use Rattle.seq_machine.specs.Meaning.{Here, meaning}
use Rattle.seq_machine.specs.Step.{site_of, script, control, steps_from}
use Rattle.seq_run.specs.Headers.{header_of}
use Rattle.turn_laws.specs.Over.{outcome_over, faulted, image_acts, OrMemory, OneOrMemory, Exactly}
use Rattle.turn_laws.specs.Events.{Event, events, logged_over, logged, then_logged, recording, accesses_of, names_made, RiseTo, IsLive}
use Rattle.turn_laws.specs.Sites.{IsAt, AsksAt}
use Rattle.turn_laws.specs.Turns.{Loop, Standing, AtHeader, Within, Outside, standing, TurnEnd, Arrived, Left, Spent, turn_from, turns_from, IsAtHeader, IsTurn, IsTurns, run_end, KeepsFrames}
use Rattle.turn_laws.specs.Traces.{step_log, run_log, turn_log, turns_log}

-- ---- trees

-- an image is such a memory: its outcome is this meaning, with a trap as a fault
abbrev pub ImageIsInstance : Type 0 → Type 0
ImageIsInstance A = (s : Script A) (m : Picture) → outcome_over (λ p. p) image_acts s m ≡ (faulted (outcome s m).0, (outcome s m).1)

-- what follows the relation that allows one answer is this meaning, unless memory ran out
abbrev pub FollowsIsOutcome : Type 0 → Type 0 → Type 0
FollowsIsOutcome A M =
    (image : M → Picture) (act : M → Call → Result Reply Fault × M) (s : Script A) (m : M) (answer : Result A Fault) (n : M)
    → Follows image (OneOrMemory act) s m answer n → OrMemory answer (outcome_over image act s m ≡ (answer, n))

-- and this meaning follows the relation that allows this answer alone
abbrev pub OutcomeFollows : Type 0 → Type 0 → Type 0
OutcomeFollows A M =
    (image : M → Picture) (act : M → Call → Result Reply Fault × M) (s : Script A) (m : M)
    → Follows image (Exactly act) s m (outcome_over image act s m).0 (outcome_over image act s m).1

-- the log changes nothing of the meaning
abbrev pub LoggedIsOutcome : Type 0 → Type 0 → Type 0
LoggedIsOutcome A M =
    (image : M → Picture) (act : M → Call → Result Reply Fault × M) (s : Script A) (m : M)
    → ((logged_over image act s m).answer, (logged_over image act s m).memory) ≡ outcome_over image act s m

-- a memory that keeps the events of its calls beside it has the log in the end
abbrev pub RecordingIsLogged : Type 0 → Type 0 → Type 0
RecordingIsLogged A M =
    (image : M → Picture) (act : M → Call → Result Reply Fault × M) (s : Script A) (m : M) (log : List Event)
    → outcome_over (λ p. image p.0) (recording act) s (m, log) ≡ ((logged_over image act s m).answer, ((logged_over image act s m).memory, log ++ (logged_over image act s m).log))

-- of one tree after another the logs stand one after another
abbrev pub ChainsAreLogged : Type 0 → Type 0 → Type 0 → Type 0
ChainsAreLogged A B M =
    (image : M → Picture) (act : M → Call → Result Reply Fault × M) (s : Script A) (k : A → Script B) (m : M)
    → logged_over image act (chain s k) m ≡ then_logged (logged_over image act s m) (λ a n. logged_over image act (k a) n)

-- on an image, what a call reads and writes are bytes of live objects
abbrev pub AccessesAreLive : Type 0
AccessesAreLive = (m n : Picture) (call : Call) (r : Reply) → does m call ≡ Ok (r, n) → AllByRecursion (IsLive m) (accesses_of (events call r))

-- and the objects that a tree makes take the next names, one by one
abbrev pub NamesRise : Type 0 → Type 0
NamesRise A = (s : Script A) (m : Picture) → RiseTo m.next (names_made (logged s m).log) (logged s m).memory.next

-- where every call of a tree is of the instruction at a site, so is the log
abbrev pub LogsAreAt : Type 0 → Type 0 → Type 0
LogsAreAt A M =
    (site : Site) (image : M → Picture) (act : M → Call → Result Reply Fault × M) (s : Script A) (m : M) → AsksAt site s → AllByRecursion (IsAt site) (logged_over image act s m).log

-- the calls of an instruction are of its site
abbrev pub InstructionsAskAt : Type 0
InstructionsAskAt = (h : Here) (o : Op) → AsksAt h.site (meaning h o)

-- ---- steps

-- the value or the trap of a step, and the memory after it, are those with the log
abbrev pub StepIsLogged : Type 0
StepIsLogged =
    (code : Code) (input : Text) (s : State Picture)
    → ((logged (script code input (control s)) s.memory).answer ≡ faulted (outcome (script code input (control s)) s.memory).0)
    × ((logged (script code input (control s)) s.memory).memory ≡ (outcome (script code input (control s)) s.memory).1)

-- what a step does to memory is of the instruction at which the top frame stands
abbrev pub StepLogIsAt : Type 0
StepLogIsAt = (code : Code) (input : Text) (s : State Picture) → AllByRecursion (IsAt (site_of code (top s.frames))) (step_log code input s)

-- steps that are used up, and then more
abbrev pub RunGoesOn : Type 0
RunGoesOn =
    (code : Code) (input : Text) (s t : State Picture) (n more : ℕ) → steps_from code input s n ≡ (run.Spent, t)
    → (steps_from code input s (n + more) ≡ steps_from code input t more) × (run_log code input s (n + more) ≡ run_log code input s n ++ run_log code input t more)

-- the objects that a run makes take the next names, one by one, unless it traps: what the trapping instruction made is taken back
abbrev pub RunNamesRise : Type 0
RunNamesRise =
    (code : Code) (input : Text) (s t : State Picture) (n : ℕ) → steps_from code input s n ≡ (run.Spent, t) → RiseTo s.memory.next (names_made (run_log code input s n)) t.memory.next

-- ---- turns

-- A turn is a run of so many steps, as its end tells, and does what they do; the states between stand in the loop, behind the
-- header or in a call.
pub record IsRun (code : Code) (input : Text) (l : Loop) (depth : ℕ) (s : State Picture) (n : ℕ) (e : TurnEnd) (t : State Picture) : Type 0 where
  pub count : ℕ
  pub within : count ≤ n
  pub counted : t.steps ≡ s.steps + count
  pub run : steps_from code input s count ≡ (run_end e, t)
  pub log : turn_log code input l depth s n ≡ run_log code input s count
  pub inside : (i : ℕ) → suc i < count → standing code l depth (steps_from code input s (suc i)).1.frames ≡ Within

abbrev pub TurnIsRun : Type 0
TurnIsRun =
    (code : Code) (input : Text) (l : Loop) (depth : ℕ) (s t : State Picture) (n : ℕ) (e : TurnEnd)
    → turn_from code input l depth s n ≡ (e, t) → IsRun code input l depth s n e t

-- t is the first state after s that stands so: it does after so many steps and one more, and the states between stand in the loop
pub record IsFirst (code : Code) (input : Text) (l : Loop) (depth : ℕ) (s : State Picture) (n : ℕ) (w : Standing) (t : State Picture) : Type 0 where
  pub between : ℕ
  pub within : between < n
  pub run : steps_from code input s (suc between) ≡ (run.Spent, t)
  pub stands : standing code l depth t.frames ≡ w
  pub inside : (i : ℕ) → i < between → standing code l depth (steps_from code input s (suc i)).1.frames ≡ Within

-- a turn that arrives ends at the first state that stands at the header again, and where there is one within so many steps, the
-- turn arrives there
abbrev pub ArrivedIsFirst : Type 0
ArrivedIsFirst =
    (code : Code) (input : Text) (l : Loop) (depth : ℕ) (s t : State Picture) (n : ℕ)
    → turn_from code input l depth s n ≡ (Arrived, t) → IsFirst code input l depth s n AtHeader t

abbrev pub FirstIsArrived : Type 0
FirstIsArrived =
    (code : Code) (input : Text) (l : Loop) (depth : ℕ) (s t : State Picture) (n : ℕ)
    → IsFirst code input l depth s n AtHeader t → turn_from code input l depth s n ≡ (Arrived, t)

-- the same of a turn that leaves, and of states outside the loop
abbrev pub LeftIsFirst : Type 0
LeftIsFirst =
    (code : Code) (input : Text) (l : Loop) (depth : ℕ) (s t : State Picture) (n : ℕ)
    → turn_from code input l depth s n ≡ (Left, t) → IsFirst code input l depth s n Outside t

abbrev pub FirstIsLeft : Type 0
FirstIsLeft =
    (code : Code) (input : Text) (l : Loop) (depth : ℕ) (s t : State Picture) (n : ℕ)
    → IsFirst code input l depth s n Outside t → turn_from code input l depth s n ≡ (Left, t)

-- a turn that is spent took all its steps, and each led to a state in the loop
abbrev pub SpentIsWithin : Type 0
SpentIsWithin =
    (code : Code) (input : Text) (l : Loop) (depth : ℕ) (s t : State Picture) (n : ℕ) → turn_from code input l depth s n ≡ (Spent, t)
    → (steps_from code input s n ≡ (run.Spent, t)) × ((i : ℕ) → i < n → standing code l depth (steps_from code input s (suc i)).1.frames ≡ Within)

-- a turn that is not over yet goes on from where it is, and so does its log
abbrev pub WithinGoesOn : Type 0
WithinGoesOn =
    (code : Code) (input : Text) (l : Loop) (depth : ℕ) (s t : State Picture) (n more : ℕ) → steps_from code input s n ≡ (run.Spent, t)
    → ((i : ℕ) → i < n → standing code l depth (steps_from code input s (suc i)).1.frames ≡ Within)
    → (turn_from code input l depth s (n + more) ≡ turn_from code input l depth t more)
    × (turn_log code input l depth s (n + more) ≡ run_log code input s n ++ turn_log code input l depth t more)

-- the states that stand at the header are those at which a run to this header stops, where so many frames stand
abbrev pub HeaderIsStop : Type 0
HeaderIsStop =
    (code : Code) (l : Loop) (depth : ℕ) (frames : List Frame)
    → (standing code l depth frames ≡ AtHeader) ↔ ((length frames ≡ depth) × (header_of code (l.header ∷ []) frames ≡ Some 0))

-- more steps change nothing of a turn that was not spent
abbrev pub TurnIsSettled : Type 0
TurnIsSettled =
    (code : Code) (input : Text) (l : Loop) (depth : ℕ) (s : State Picture) (n more : ℕ)
    → (turn_from code input l depth s n).0 ≢ Spent → n ≤ more
    → (turn_from code input l depth s more ≡ turn_from code input l depth s n) × (turn_log code input l depth s more ≡ turn_log code input l depth s n)

-- nor of turns that all arrived
abbrev pub TurnsAreSettled : Type 0
TurnsAreSettled =
    (code : Code) (input : Text) (l : Loop) (depth c : ℕ) (s t : State Picture) (n more : ℕ)
    → turns_from code input l depth c s n ≡ (Arrived, t) → n ≤ more
    → (turns_from code input l depth c s more ≡ (Arrived, t)) × (turns_log code input l depth c s more ≡ turns_log code input l depth c s n)

-- a state has one turn at most, and so many turns lead to one state at most
abbrev pub TurnIsOne : Type 0
TurnIsOne = (code : Code) (input : Text) (l : Loop) (s t u : State Picture) → IsTurn code input l s t → IsTurn code input l s u → t ≡ u

abbrev pub TurnsAreOne : Type 0
TurnsAreOne = (code : Code) (input : Text) (l : Loop) (c : ℕ) (s t u : State Picture) → IsTurns code input l c s t → IsTurns code input l c s u → t ≡ u

-- where a turn comes back, the next one begins, in the same frame
abbrev pub NextBegins : Type 0
NextBegins = (code : Code) (input : Text) (l : Loop) (s t : State Picture) → IsTurn code input l s t → (length t.frames ≡ length s.frames) × IsAtHeader code l t

-- a turn and then so many make one more; and one more are a turn and then so many
abbrev pub TurnThenTurns : Type 0
TurnThenTurns = (code : Code) (input : Text) (l : Loop) (c : ℕ) (s t u : State Picture) → IsTurn code input l s t → IsTurns code input l c t u → IsTurns code input l (suc c) s u

abbrev pub TurnBeforeTurns : Type 0
TurnBeforeTurns =
    (code : Code) (input : Text) (l : Loop) (c : ℕ) (s u : State Picture)
    → IsTurns code input l (suc c) s u → (t : State Picture) × IsTurn code input l s t × IsTurns code input l c t u

-- so many turns that arrived, and then more
abbrev pub TurnsGoOn : Type 0
TurnsGoOn =
    (code : Code) (input : Text) (l : Loop) (depth c more : ℕ) (s t : State Picture) (n : ℕ) → turns_from code input l depth c s n ≡ (Arrived, t)
    → (turns_from code input l depth (c + more) s n ≡ turns_from code input l depth more t n)
    × (turns_log code input l depth (c + more) s n ≡ turns_log code input l depth c s n ++ turns_log code input l depth more t n)

-- turns that arrived are a run of so many steps, and do what they do
pub record AreRun (code : Code) (input : Text) (l : Loop) (depth c : ℕ) (s : State Picture) (n : ℕ) (t : State Picture) : Type 0 where
  pub count : ℕ
  pub counted : t.steps ≡ s.steps + count
  pub run : steps_from code input s count ≡ (run.Spent, t)
  pub log : turns_log code input l depth c s n ≡ run_log code input s count

abbrev pub TurnsAreRun : Type 0
TurnsAreRun =
    (code : Code) (input : Text) (l : Loop) (depth c : ℕ) (s t : State Picture) (n : ℕ)
    → turns_from code input l depth c s n ≡ (Arrived, t) → AreRun code input l depth c s n t

-- the objects that turns make take the next names, one by one
abbrev pub TurnsNamesRise : Type 0
TurnsNamesRise =
    (code : Code) (input : Text) (l : Loop) (depth c : ℕ) (s t : State Picture) (n : ℕ)
    → turns_from code input l depth c s n ≡ (Arrived, t) → RiseTo s.memory.next (names_made (turns_log code input l depth c s n)) t.memory.next

-- a run through which so many frames stand, and one more, keeps them
abbrev pub RunKeepsFrames : Type 0
RunKeepsFrames =
    (code : Code) (input : Text) (below : ℕ) (s t : State Picture) (n : ℕ) → suc below ≤ length s.frames → steps_from code input s n ≡ (run.Spent, t)
    → ((i : ℕ) → i < n → suc below ≤ length (steps_from code input s (suc i)).1.frames) → KeepsFrames below s.frames t.frames

-- so turns that arrive are turns of one frame
abbrev pub TurnsKeepFrames : Type 0
TurnsKeepFrames =
    (code : Code) (input : Text) (l : Loop) (below c : ℕ) (s t : State Picture) (n : ℕ) → length s.frames ≡ suc below
    → turns_from code input l (suc below) c s n ≡ (Arrived, t) → (length t.frames ≡ suc below) × KeepsFrames below s.frames t.frames

-- the accesses of events, and then more, stand in the same order; so do the names
abbrev pub AccessesJoin : Type 0
AccessesJoin =
    (log more : List Event) → (accesses_of (log ++ more) ≡ accesses_of log ++ accesses_of more) × (names_made (log ++ more) ≡ names_made log ++ names_made more)
