-- Turns are runs, a step at a time.
use Rattle.std.proofs.Common.{◌<◌, ◌≡◌, ℕ, zero, suc, ◌+◌, List, ◌++◌, Option, Some, None, Result, Ok, Err, refl, sym, ap, subst, ◌∙◌, arith}
use Rattle.std.proofs.lemmas.List.{append_assoc}
use Rattle.int_num.specs.Integer.{Integer}
use Rattle.pv_base.specs.Outside.{Text}
use Rattle.pv_base.specs.declared.place.Site.{Site}
use Rattle.ir_code.specs.declared.code.Code.{Code}
use Rattle.mem_image.specs.declared.fault.CheckFault.{CheckFault}
use Rattle.mem_image.specs.declared.fault.Trap.{Trap as TrapWord}
use Rattle.mem_image.specs.Picture.{Picture}
use Rattle.seq_effects.specs.Script.{outcome}
use Rattle.seq_machine.specs.declared.state.State.{State}
use Rattle.seq_machine.specs.declared.state.Step.{Step}
use Rattle.seq_machine.specs.declared.state.Step.TheVariants as step
use Rattle.seq_machine.specs.declared.state.End.{End}
use Rattle.seq_machine.specs.declared.state.End.TheVariants as run
use Rattle.seq_machine.specs.Acts.{Acted}
use Rattle.seq_machine.specs.Step.{script, control, finish, step_word, goes_on, step as one_step, steps_from}
use Rattle.turn_laws.specs.Events.{Event}
use Rattle.turn_laws.specs.Turns.{Loop, Standing, AtHeader, Within, Outside, standing, TurnEnd, turn_goes, turn_from}
use Rattle.turn_laws.specs.Traces.{step_log, log_goes, run_log, log_within, turn_log}
use Rattle.turn_laws.specs.Laws.{RunGoesOn, IsRun, TurnIsRun}

-- ---- one step

finish_counts : (code : Code) (s : State Picture) (r : Result Acted TrapWord × Picture) → (finish code s r).1.steps ≡ s.steps + 1
finish_counts code s (Ok a, m) = refl
finish_counts code s (Err t, m) = refl

-- each step is counted
step_counts : (code : Code) (input : Text) (s : State Picture) (x : Step) (u : State Picture) → one_step code input s ≡ (x, u) → u.steps ≡ s.steps + 1
step_counts code input s x u e = ap (λ (r : Step × State Picture). r.1.steps) (sym e) ∙ finish_counts code s (outcome (script code input (control s)) s.memory)

word_is_no_check : (o : Option Integer) (f : CheckFault) (site : Site) → step_word o ≡ step.Failed f site → ⊥
word_is_no_check None f site e = cc
word_is_no_check (Some n) f site e = cc

finish_is_no_check : (code : Code) (s : State Picture) (r : Result Acted TrapWord × Picture) (f : CheckFault) (site : Site) → (finish code s r).0 ≡ step.Failed f site → ⊥
finish_is_no_check code s (Ok a, m) f site e = word_is_no_check a.ended f site e
finish_is_no_check code s (Err t, m) f site e = cc

-- an image answers no check
pub no_check : (code : Code) (input : Text) (s : State Picture) (f : CheckFault) (site : Site) (u : State Picture) → one_step code input s ≡ (step.Failed f site, u) → ⊥
no_check code input s f site u e = finish_is_no_check code s (outcome (script code input (control s)) s.memory) f site (ap (λ (r : Step × State Picture). r.0) e)

-- ---- a first step, and what comes after it

module _ (code : Code) (input : Text) (s : State Picture) (x : Step) (u : State Picture) (e : one_step code input s ≡ (x, u)) where
  pub steps_first : (n : ℕ) → steps_from code input s (suc n) ≡ goes_on x u (steps_from code input u n)
  steps_first n = ap (λ (r : Step × State Picture). goes_on r.0 r.1 (steps_from code input r.1 n)) e

  pub log_first : (n : ℕ) → run_log code input s (suc n) ≡ step_log code input s ++ log_goes x (run_log code input u n)
  log_first n = ap (λ (r : Step × State Picture). step_log code input s ++ log_goes r.0 (run_log code input r.1 n)) e

  pub turn_first : (l : Loop) (depth n : ℕ) → turn_from code input l depth s (suc n) ≡ turn_goes x (standing code l depth u.frames) u (turn_from code input l depth u n)
  turn_first l depth n = ap (λ (r : Step × State Picture). turn_goes r.0 (standing code l depth r.1.frames) r.1 (turn_from code input l depth r.1 n)) e

  pub turn_log_first : (l : Loop) (depth n : ℕ) → turn_log code input l depth s (suc n) ≡ step_log code input s ++ log_goes x (log_within (standing code l depth u.frames) (turn_log code input l depth u n))
  turn_log_first l depth n = ap (λ (r : Step × State Picture). step_log code input s ++ log_goes r.0 (log_within (standing code l depth r.1.frames) (turn_log code input l depth r.1 n))) e

-- ---- runs

pub after_zero : (n : ℕ) → 0 + n ≡ n
after_zero n = omega arith

pub after_suc : (n m : ℕ) → suc n + m ≡ suc (n + m)
after_suc n m = omega arith

-- what goes on from the state after a first step, goes on from the first
runs_on : (code : Code) (input : Text) (s t : State Picture) (n more : ℕ) (x : Step) (u : State Picture) → one_step code input s ≡ (x, u)
    → (steps_from code input u n ≡ (run.Spent, t) → (steps_from code input u (n + more) ≡ steps_from code input t more) × (run_log code input u (n + more) ≡ run_log code input u n ++ run_log code input t more))
    → goes_on x u (steps_from code input u n) ≡ (run.Spent, t)
    → (steps_from code input s (suc (n + more)) ≡ steps_from code input t more) × (run_log code input s (suc (n + more)) ≡ run_log code input s (suc n) ++ run_log code input t more)
runs_on code input s t n more step.Next u e again h =
    let next = again h in (
      steps_first code input s step.Next u e (n + more) ∙ next.0,
      log_first code input s step.Next u e (n + more) ∙ ap (λ (log : List Event). step_log code input s ++ log) next.1
          ∙ sym (append_assoc (step_log code input s) (run_log code input u n) (run_log code input t more)) ∙ ap (λ (log : List Event). log ++ run_log code input t more) (sym (log_first code input s step.Next u e n)),
    )
runs_on code input s t n more (step.Ended v) u e again h = let q : run.Ended v ≡ run.Spent = ap (λ (r : End × State Picture). r.0) h in absurd (cc)
runs_on code input s t n more (step.Trap w site) u e again h = let q : run.Trapped w site ≡ run.Spent = ap (λ (r : End × State Picture). r.0) h in absurd (cc)
runs_on code input s t n more (step.Failed f site) u e again h = absurd (no_check code input s f site u e)

pub run_goes_on : RunGoesOn
run_goes_on code input s t zero more h =
    let same : s ≡ t = ap (λ (r : End × State Picture). r.1) h in
    rw (after_zero more, same) (refl, refl)
run_goes_on code input s t (suc n) more h =
    rw (after_suc n more) (runs_on code input s t n more (one_step code input s).0 (one_step code input s).1 refl (run_goes_on code input (one_step code input s).1 t n more) h)

-- ---- a turn is a run

-- the states between, one more of them
inside_more : (code : Code) (input : Text) (l : Loop) (depth : ℕ) (s u : State Picture) (k : ℕ) → one_step code input s ≡ (step.Next, u) → standing code l depth u.frames ≡ Within
    → ((i : ℕ) → suc i < k → standing code l depth (steps_from code input u (suc i)).1.frames ≡ Within) → (i : ℕ) → suc i < suc k → standing code l depth (steps_from code input s (suc i)).1.frames ≡ Within
inside_more code input l depth s u k e at inside zero lt = ap (λ (r : End × State Picture). standing code l depth r.1.frames) (steps_first code input s step.Next u e 0) ∙ at
inside_more code input l depth s u k e at inside (suc i) lt = ap (λ (r : End × State Picture). standing code l depth r.1.frames) (steps_first code input s step.Next u e (suc i)) ∙ inside i (omega arith)

is_run : (code : Code) (input : Text) (l : Loop) (depth : ℕ) (s : State Picture) (n : ℕ) (x : Step) (w : Standing) (u : State Picture) → one_step code input s ≡ (x, u) → standing code l depth u.frames ≡ w
    → IsRun code input l depth u n (turn_from code input l depth u n).0 (turn_from code input l depth u n).1
    → IsRun code input l depth s (suc n) (turn_goes x w u (turn_from code input l depth u n)).0 (turn_goes x w u (turn_from code input l depth u n)).1
is_run code input l depth s n step.Next Within u e at again =
    record {
      count = suc again.count;
      within = omega (arith, again.within);
      counted = omega (arith, again.counted, step_counts code input s step.Next u e);
      run = steps_first code input s step.Next u e again.count ∙ again.run;
      log = turn_log_first code input s step.Next u e l depth n ∙ ap (λ (v : Standing). step_log code input s ++ log_within v (turn_log code input l depth u n)) at
          ∙ ap (λ (log : List Event). step_log code input s ++ log) again.log ∙ sym (log_first code input s step.Next u e again.count);
      inside = inside_more code input l depth s u again.count e at again.inside;
    }
is_run code input l depth s n step.Next AtHeader u e at again =
    record {
      count = 1;
      within = omega arith;
      counted = step_counts code input s step.Next u e;
      run = steps_first code input s step.Next u e 0;
      log = turn_log_first code input s step.Next u e l depth n ∙ ap (λ (v : Standing). step_log code input s ++ log_within v (turn_log code input l depth u n)) at ∙ sym (log_first code input s step.Next u e 0);
      inside = λ i lt. absurd (omega arith);
    }
is_run code input l depth s n step.Next Outside u e at again =
    record {
      count = 1;
      within = omega arith;
      counted = step_counts code input s step.Next u e;
      run = steps_first code input s step.Next u e 0;
      log = turn_log_first code input s step.Next u e l depth n ∙ ap (λ (v : Standing). step_log code input s ++ log_within v (turn_log code input l depth u n)) at ∙ sym (log_first code input s step.Next u e 0);
      inside = λ i lt. absurd (omega arith);
    }
is_run code input l depth s n (step.Ended v) w u e at again =
    record {
      count = 1;
      within = omega arith;
      counted = step_counts code input s (step.Ended v) u e;
      run = steps_first code input s (step.Ended v) u e 0;
      log = turn_log_first code input s (step.Ended v) u e l depth n ∙ sym (log_first code input s (step.Ended v) u e 0);
      inside = λ i lt. absurd (omega arith);
    }
is_run code input l depth s n (step.Trap t site) w u e at again =
    record {
      count = 1;
      within = omega arith;
      counted = step_counts code input s (step.Trap t site) u e;
      run = steps_first code input s (step.Trap t site) u e 0;
      log = turn_log_first code input s (step.Trap t site) u e l depth n ∙ sym (log_first code input s (step.Trap t site) u e 0);
      inside = λ i lt. absurd (omega arith);
    }
is_run code input l depth s n (step.Failed f site) w u e at again = absurd (no_check code input s f site u e)

run_of_turn : (code : Code) (input : Text) (l : Loop) (depth : ℕ) (s : State Picture) (n : ℕ) → IsRun code input l depth s n (turn_from code input l depth s n).0 (turn_from code input l depth s n).1
run_of_turn code input l depth s zero = record { count = 0; within = omega arith; counted = omega arith; run = refl; log = refl; inside = λ i lt. absurd (omega arith) }
run_of_turn code input l depth s (suc n) =
    is_run code input l depth s n (one_step code input s).0 (standing code l depth (one_step code input s).1.frames) (one_step code input s).1 refl refl (run_of_turn code input l depth (one_step code input s).1 n)

pub turn_is_run : TurnIsRun
turn_is_run code input l depth s t n e h = subst (λ (r : TurnEnd × State Picture). IsRun code input l depth s n r.0 r.1) h (run_of_turn code input l depth s n)
