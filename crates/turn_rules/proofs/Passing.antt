-- A turn that passed failed none of the checks at the header.
use Rattle.std.proofs.Common.{◌≡◌, ◌-◌, Option, None, Some, Result, Ok, Err, refl}
use Rattle.std.specs.Option.{option_or}
use Rattle.span_types.specs.declared.failure.Failure.{Failure}
use Rattle.turn_rules.specs.Marks.{Course, TurnDone}
use Rattle.turn_rules.specs.Solo.{Solo, to_header, begun}
use Rattle.turn_rules.specs.Ends.{end_failure, lifetime, left_alive, phi_missed, bytes_missed, done, unless_failed, ended}
use Rattle.turn_rules.specs.Loops.{phi_moves}
use Rattle.turn_rules.specs.Laws.{PassedGuessesStand}

-- the last of three is none where the first that is there is
last_is_none : {A : Type 0} (a b e : Option A) → option_or a (option_or b e) ≡ None → e ≡ None
last_is_none None None e h = h
last_is_none None (Some y) e h = cc
last_is_none (Some x) b e h = cc

passes : (c : Course) (s : Solo) (d : TurnDone) (failed : Option Failure) → end_failure c s ≡ failed → unless_failed c s failed ≡ Ok d →
    bytes_missed c d.state.memory c.plan.guesses ≡ None
passes c s d None f h =
    let e : done c s ≡ d = cc in
    rw (← e) (last_is_none (lifetime c (left_alive c s.state.memory.picture)) (phi_missed c s (phi_moves c.code c.plan.region)) (bytes_missed c s.state.memory.picture c.plan.guesses) f)
passes c s d (Some x) f h = cc

pub guesses_stand : PassedGuessesStand
guesses_stand c d h = go (to_header c (c.span.budget - c.span.base.steps) (begun c)) h
  where
    go : (r : Result Solo Failure) → ended c r ≡ Ok d → bytes_missed c d.state.memory c.plan.guesses ≡ None
    go (Ok s) h = passes c s d (end_failure c s) refl h
    go (Err e) h = cc
