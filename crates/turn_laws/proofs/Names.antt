-- The names of the objects that a run makes.
use Rattle.std.proofs.Common.{◌≡◌, ℕ, zero, suc, List, Result, Ok, Err, refl, sym, ap, subst, ◌∙◌}
use Rattle.pv_base.specs.Outside.{Text}
use Rattle.ir_code.specs.declared.code.Code.{Code}
use Rattle.mem_image.specs.declared.fault.Trap.{Trap as TrapWord}
use Rattle.mem_image.specs.Picture.{Picture}
use Rattle.seq_effects.specs.Script.{outcome}
use Rattle.seq_machine.specs.declared.state.State.{State}
use Rattle.seq_machine.specs.declared.state.Step.{Step}
use Rattle.seq_machine.specs.declared.state.Step.TheVariants as step
use Rattle.seq_machine.specs.declared.state.End.{End}
use Rattle.seq_machine.specs.declared.state.End.TheVariants as run
use Rattle.seq_machine.specs.Acts.{Acted, top}
use Rattle.seq_machine.specs.Step.{script, control, finish, site_of, goes_on, step as one_step, steps_from}
use Rattle.turn_laws.specs.Events.{Event, names_made, RiseTo}
use Rattle.turn_laws.specs.Traces.{step_log, run_log}
use Rattle.turn_laws.specs.Laws.{RunNamesRise, TurnsNamesRise}
use Rattle.turn_laws.proofs.Trees.{step_is_logged}
use Rattle.turn_laws.proofs.Turns.{no_check, log_first}
use Rattle.turn_laws.proofs.Images.{names_rise, rise_logs}
use Rattle.turn_laws.proofs.Settled.{turns_are_run}

-- a step that goes on has the memory of its tree
finished : (code : Code) (s u : State Picture) (r : Result Acted TrapWord × Picture) → finish code s r ≡ (step.Next, u) → r.1 ≡ u.memory
finished code s u (Ok a, m) e = ap (λ (x : Step × State Picture). x.1.memory) e
finished code s u (Err t, m) e = let q : step.Trap t (site_of code (top s.frames)) ≡ step.Next = ap (λ (x : Step × State Picture). x.0) e in absurd (cc)

step_rises : (code : Code) (input : Text) (s u : State Picture) → one_step code input s ≡ (step.Next, u) → RiseTo s.memory.next (names_made (step_log code input s)) u.memory.next
step_rises code input s u e =
    subst (λ (m : Picture). RiseTo s.memory.next (names_made (step_log code input s)) m.next)
    ((step_is_logged code input s).1 ∙ finished code s u (outcome (script code input (control s)) s.memory) e)
    (names_rise Acted (script code input (control s)) s.memory)

goes : (code : Code) (input : Text) (s t : State Picture) (n : ℕ) (x : Step) (u : State Picture) → one_step code input s ≡ (x, u)
    → (steps_from code input u n ≡ (run.Spent, t) → RiseTo u.memory.next (names_made (run_log code input u n)) t.memory.next)
    → goes_on x u (steps_from code input u n) ≡ (run.Spent, t) → RiseTo s.memory.next (names_made (run_log code input s (suc n))) t.memory.next
goes code input s t n step.Next u e again h =
    subst (λ (log : List Event). RiseTo s.memory.next (names_made log) t.memory.next) (sym (log_first code input s step.Next u e n))
    (rise_logs s.memory.next u.memory.next t.memory.next (step_log code input s) (run_log code input u n) (step_rises code input s u e) (again h))
goes code input s t n (step.Ended v) u e again h = let q : run.Ended v ≡ run.Spent = ap (λ (r : End × State Picture). r.0) h in absurd (cc)
goes code input s t n (step.Trap v site) u e again h = let q : run.Trapped v site ≡ run.Spent = ap (λ (r : End × State Picture). r.0) h in absurd (cc)
goes code input s t n (step.Failed f site) u e again h = absurd (no_check code input s f site u e)

pub run_names_rise : RunNamesRise
run_names_rise code input s t zero h = ap (λ (r : End × State Picture). r.1.memory.next) (sym h)
run_names_rise code input s t (suc n) h = goes code input s t n (one_step code input s).0 (one_step code input s).1 refl (run_names_rise code input (one_step code input s).1 t n) h

pub turns_names_rise : TurnsNamesRise
turns_names_rise code input l depth c s t n h =
    let r = turns_are_run code input l depth c s t n h in
    subst (λ (log : List Event). RiseTo s.memory.next (names_made log) t.memory.next) (sym r.log) (run_names_rise code input s t r.count r.run)
