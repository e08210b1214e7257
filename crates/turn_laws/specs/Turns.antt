-- Turns of a loop in a run of the sequential machine.
use Rattle.std.specs.Prelude.{ℕ, zero, suc, ◌≡◌, ◌==◌, ◌&&◌, nat_eq, nat_lt, List, length, map, take, Bool, Option, Some, None, if◌then◌else◌}
use Rattle.std.specs.List.{list_any}
use Rattle.int_num.specs.Integer.{Integer}
use Rattle.pv_base.specs.Outside.{Text}
use Rattle.pv_base.specs.declared.place.Site.{Site}
use Rattle.ir_code.specs.declared.code.Code.{Code}
use Rattle.mem_image.specs.declared.fault.Trap.{Trap as TrapWord}
use Rattle.mem_image.specs.Picture.{Picture}
use Rattle.seq_effects.specs.declared.state.Frame.{Frame}
use Rattle.seq_machine.specs.declared.state.State.{State}
use Rattle.seq_machine.specs.declared.state.Header.{Header}
use Rattle.seq_machine.specs.declared.state.Step.{Step}
use Rattle.seq_machine.specs.declared.state.Step.TheVariants as step
use Rattle.seq_machine.specs.declared.state.End.{End}
use Rattle.seq_machine.specs.declared.state.End.TheVariants as run
use Rattle.seq_machine.specs.Acts.{top, block_at, phis_of}
use Rattle.seq_machine.specs.Step.{step as one_step}
use Rattle.seq_run.specs.Headers.{is_header}

-- a loop of a function: its header, and the numbers of its blocks
pub record Loop : Type 0 where
  pub header : Header
  pub blocks : List ℕ

-- ---- where a state stands, seen from the frame that runs the loop

-- right behind the phis of the header; in the loop; or no longer in it
pub data Standing : Type 0 where
  AtHeader : Standing
  Within : Standing
  Outside : Standing

abbrev pub is_at_header : Code → Loop → Frame → Bool
is_at_header code l f = is_header f l.header && f.place == phis_of (block_at code f)

abbrev pub is_within : Loop → Frame → Bool
is_within l f = l.header.function == f.function && list_any (nat_eq f.block) l.blocks

abbrev pub frame_stands : Code → Loop → Option Frame → Standing
frame_stands code l (Some f) = if is_at_header code l f then AtHeader else if is_within l f then Within else Outside
frame_stands code l None = Outside

-- So many frames stand up to the one that runs the loop. Where more stand, that frame waits at a call, and is in the loop still;
-- where fewer stand, it has returned.
abbrev pub standing : Code → Loop → ℕ → List Frame → Standing
standing code l depth frames =
    if length frames == depth then frame_stands code l (top frames) else if nat_lt depth (length frames) then Within else Outside

-- ---- a turn

-- it came back to the header; its frame left the loop's blocks or returned; the run ended or trapped; or the steps were taken
pub data TurnEnd : Type 0 where
  Arrived : TurnEnd
  Left : TurnEnd
  Ended : Integer → TurnEnd
  Trapped : TrapWord → Site → TurnEnd
  Spent : TurnEnd

abbrev pub by_standing : Standing → State Picture → TurnEnd × State Picture → TurnEnd × State Picture
by_standing AtHeader s rest = (Arrived, s)
by_standing Within s rest = rest
by_standing Outside s rest = (Left, s)

abbrev pub turn_goes : Step → Standing → State Picture → TurnEnd × State Picture → TurnEnd × State Picture
turn_goes step.Next w s rest = by_standing w s rest
turn_goes (step.Ended n) w s rest = (Ended n, s)
turn_goes (step.Trap t site) w s rest = (Trapped t site, s)
turn_goes (step.Failed f site) w s rest = (Spent, s)

-- At most so many steps from a state, at least one where there are any, to the first later state that stands at the header in the
-- frame at this depth, or to where there can be none.
abbrev pub turn_from : Code → Text → Loop → ℕ → State Picture → ℕ → TurnEnd × State Picture
turn_from code input l depth s zero = (Spent, s)
turn_from code input l depth s (suc n) =
    turn_goes (one_step code input s).0 (standing code l depth (one_step code input s).1.frames) (one_step code input s).1 (turn_from code input l depth (one_step code input s).1 n)

-- the turn that begins at a state, in its top frame
abbrev pub turn : Code → Text → Loop → State Picture → ℕ → TurnEnd × State Picture
turn code input l s n = turn_from code input l (length s.frames) s n

abbrev pub on_arrival : TurnEnd → State Picture → (State Picture → TurnEnd × State Picture) → TurnEnd × State Picture
on_arrival Arrived s next = next s
on_arrival Left s next = (Left, s)
on_arrival (Ended n) s next = (Ended n, s)
on_arrival (Trapped t site) s next = (Trapped t site, s)
on_arrival Spent s next = (Spent, s)

-- so many turns one after another in the frame at this depth, each of at most n steps
abbrev pub turns_from : Code → Text → Loop → ℕ → ℕ → State Picture → ℕ → TurnEnd × State Picture
turns_from code input l depth zero s n = (Arrived, s)
turns_from code input l depth (suc c) s n =
    on_arrival (turn_from code input l depth s n).0 (turn_from code input l depth s n).1 (λ t. turns_from code input l depth c t n)

abbrev pub turns : Code → Text → Loop → ℕ → State Picture → ℕ → TurnEnd × State Picture
turns code input l c s n = turns_from code input l (length s.frames) c s n

-- ---- the same without a bound on the steps

-- a turn begins at such a state
abbrev pub IsAtHeader : Code → Loop → State Picture → Type 0
IsAtHeader code l s = standing code l (length s.frames) s.frames ≡ AtHeader

-- the turn that begins at s comes back to the header in t
abbrev pub IsTurn : Code → Text → Loop → State Picture → State Picture → Type 0
IsTurn code input l s t = (n : ℕ) × (turn code input l s n ≡ (Arrived, t))

-- t is the state after c turns from s
abbrev pub IsTurns : Code → Text → Loop → ℕ → State Picture → State Picture → Type 0
IsTurns code input l c s t = (n : ℕ) × (turns code input l c s n ≡ (Arrived, t))

-- the end of the run of as many steps: what comes to a header or leaves the loop has only used its steps up
abbrev pub run_end : TurnEnd → End
run_end Arrived = run.Spent
run_end Left = run.Spent
run_end (Ended n) = run.Ended n
run_end (Trapped t site) = run.Trapped t site
run_end Spent = run.Spent

-- ---- frames

-- so many frames stand below the one that runs the loop: they stay, and that one keeps its function
pub record KeepsFrames (below : ℕ) (old new : List Frame) : Type 0 where
  pub frames : take below new ≡ take below old
  pub functions : map (λ (f : Frame). f.function) (take (suc below) new) ≡ map (λ (f : Frame). f.function) (take (suc below) old)
