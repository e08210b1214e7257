-- More steps change nothing of a turn that was not spent; turns one after another.
use Rattle.std.proofs.Common.{◌≡◌, ℕ, zero, suc, ◌+◌, ◌≤◌, List, ◌++◌, refl, sym, ap, ◌∙◌, arith}
use Rattle.std.specs.Prelude.{◌≢◌, length}
use Rattle.std.proofs.lemmas.List.{append_assoc}
use Rattle.pv_base.specs.Outside.{Text}
use Rattle.ir_code.specs.declared.code.Code.{Code}
use Rattle.mem_image.specs.Picture.{Picture}
use Rattle.seq_machine.specs.declared.state.State.{State}
use Rattle.seq_machine.specs.declared.state.Step.{Step}
use Rattle.seq_machine.specs.declared.state.Step.TheVariants as step
use Rattle.seq_machine.specs.declared.state.End.TheVariants as run
use Rattle.seq_machine.specs.Step.{step as one_step}
use Rattle.turn_laws.specs.Events.{Event}
use Rattle.turn_laws.specs.Turns.{Loop, Standing, AtHeader, Within, Outside, standing, TurnEnd, Arrived, Left, Ended, Trapped, Spent, turn_goes, turn_from, on_arrival, turns_from}
use Rattle.turn_laws.specs.Traces.{step_log, log_goes, run_log, log_within, turn_log, log_arrived, turns_log}
use Rattle.turn_laws.specs.Laws.{TurnIsSettled, TurnsAreSettled, TurnIsOne, TurnsAreOne, TurnsGoOn, AreRun, TurnsAreRun}
use Rattle.turn_laws.proofs.Turns.{after_zero, after_suc, run_goes_on, turn_is_run}

-- ---- one turn

-- the turn and its log with another budget
abbrev pub Same : Code → Text → Loop → ℕ → State Picture → ℕ → ℕ → Type 0
Same code input l depth s n more = (turn_from code input l depth s more ≡ turn_from code input l depth s n) × (turn_log code input l depth s more ≡ turn_log code input l depth s n)

settles : (code : Code) (input : Text) (l : Loop) (depth : ℕ) (s u : State Picture) (n more : ℕ) (x : Step) (w : Standing)
    → (x ≡ step.Next → w ≡ Within → Same code input l depth u n more)
    → (turn_goes x w u (turn_from code input l depth u more) ≡ turn_goes x w u (turn_from code input l depth u n))
    × (step_log code input s ++ log_goes x (log_within w (turn_log code input l depth u more)) ≡ step_log code input s ++ log_goes x (log_within w (turn_log code input l depth u n)))
settles code input l depth s u n more step.Next Within again = let next = again refl refl in (next.0, ap (λ (log : List Event). step_log code input s ++ log) next.1)
settles code input l depth s u n more step.Next AtHeader again = (refl, refl)
settles code input l depth s u n more step.Next Outside again = (refl, refl)
settles code input l depth s u n more (step.Ended v) w again = (refl, refl)
settles code input l depth s u n more (step.Trap v site) w again = (refl, refl)
settles code input l depth s u n more (step.Failed f site) w again = (refl, refl)

goes_within : (u : State Picture) (rest : TurnEnd × State Picture) (x : Step) (w : Standing) → x ≡ step.Next → w ≡ Within → turn_goes x w u rest ≡ rest
goes_within u rest x w e at = rw (e, at) refl

pub turn_is_settled : TurnIsSettled
turn_is_settled code input l depth s zero more h le = absurd (h refl)
turn_is_settled code input l depth s (suc n) zero h le = absurd (omega arith)
turn_is_settled code input l depth s (suc n) (suc more) h le =
    let x = (one_step code input s).0 in
    let u = (one_step code input s).1 in
    let w = standing code l depth u.frames in
    settles code input l depth s u n more x w
    (λ e at. turn_is_settled code input l depth u n more (λ q. h (ap (λ (r : TurnEnd × State Picture). r.0) (goes_within u (turn_from code input l depth u n) x w e at) ∙ q)) (omega arith))

-- an arrived turn is not spent
arrived_is_not_spent : (e : TurnEnd) → e ≡ Arrived → e ≢ Spent
arrived_is_not_spent e h q = cc

pub turn_is_one : TurnIsOne
turn_is_one code input l s t u (n, a) (m, b) =
    let depth = length s.frames in
    let x = (turn_is_settled code input l depth s n (n + m) (arrived_is_not_spent (turn_from code input l depth s n).0 (ap (λ (r : TurnEnd × State Picture). r.0) a)) (omega arith)).0 in
    let y = (turn_is_settled code input l depth s m (n + m) (arrived_is_not_spent (turn_from code input l depth s m).0 (ap (λ (r : TurnEnd × State Picture). r.0) b)) (omega arith)).0 in
    ap (λ (r : TurnEnd × State Picture). r.1) (sym a ∙ (sym x ∙ (y ∙ b)))

-- ---- turns

-- turns that arrived began with a turn that arrived
first_arrived : (e : TurnEnd) (q t : State Picture) (next : State Picture → TurnEnd × State Picture) → on_arrival e q next ≡ (Arrived, t) → (e ≡ Arrived) × (next q ≡ (Arrived, t))
first_arrived Arrived q t next h = (refl, h)
first_arrived Left q t next h = let d : Left ≡ Arrived = ap (λ (r : TurnEnd × State Picture). r.0) h in absurd (cc)
first_arrived (Ended n) q t next h = let d : Ended n ≡ Arrived = ap (λ (r : TurnEnd × State Picture). r.0) h in absurd (cc)
first_arrived (Trapped w site) q t next h = let d : Trapped w site ≡ Arrived = ap (λ (r : TurnEnd × State Picture). r.0) h in absurd (cc)
first_arrived Spent q t next h = let d : Spent ≡ Arrived = ap (λ (r : TurnEnd × State Picture). r.0) h in absurd (cc)

module _ (code : Code) (input : Text) (l : Loop) (depth : ℕ) where
  -- a first turn that arrives, and then the others
  pub turns_first : (c n : ℕ) (s q : State Picture) → turn_from code input l depth s n ≡ (Arrived, q) → turns_from code input l depth (suc c) s n ≡ turns_from code input l depth c q n
  turns_first c n s q e = ap (λ (r : TurnEnd × State Picture). on_arrival r.0 r.1 (λ t. turns_from code input l depth c t n)) e

  turns_log_first : (c n : ℕ) (s q : State Picture) → turn_from code input l depth s n ≡ (Arrived, q) → turns_log code input l depth (suc c) s n ≡ turn_log code input l depth s n ++ turns_log code input l depth c q n
  turns_log_first c n s q e = ap (λ (r : TurnEnd × State Picture). turn_log code input l depth s n ++ log_arrived r.0 (turns_log code input l depth c r.1 n)) e

  -- so of turns that arrived
  pub begins : (c n : ℕ) (s t : State Picture) → turns_from code input l depth (suc c) s n ≡ (Arrived, t)
      → (turn_from code input l depth s n ≡ (Arrived, (turn_from code input l depth s n).1)) × (turns_from code input l depth c (turn_from code input l depth s n).1 n ≡ (Arrived, t))
  begins c n s t h =
      let d = first_arrived (turn_from code input l depth s n).0 (turn_from code input l depth s n).1 t (λ v. turns_from code input l depth c v n) h in
      (ap (λ (e : TurnEnd). (e, (turn_from code input l depth s n).1)) d.0, d.1)

  pub later : (s q : State Picture) (n more : ℕ) → turn_from code input l depth s n ≡ (Arrived, q) → n ≤ more → Same code input l depth s n more
  later s q n more e le = turn_is_settled code input l depth s n more (arrived_is_not_spent (turn_from code input l depth s n).0 (ap (λ (r : TurnEnd × State Picture). r.0) e)) le

  pub settled_turns : (c : ℕ) (s t : State Picture) (n more : ℕ) → turns_from code input l depth c s n ≡ (Arrived, t) → n ≤ more
      → (turns_from code input l depth c s more ≡ (Arrived, t)) × (turns_log code input l depth c s more ≡ turns_log code input l depth c s n)
  settled_turns zero s t n more h le = (h, refl)
  settled_turns (suc c) s t n more h le =
      let q = (turn_from code input l depth s n).1 in
      let b = begins c n s t h in
      let same = later s q n more b.0 le in
      let rest = settled_turns c q t n more b.1 le in (
        turns_first c more s q (same.0 ∙ b.0) ∙ rest.0,
        turns_log_first c more s q (same.0 ∙ b.0) ∙ (ap (λ (log : List Event). log ++ turns_log code input l depth c q more) same.1
            ∙ (ap (λ (log : List Event). turn_log code input l depth s n ++ log) rest.1 ∙ sym (turns_log_first c n s q b.0))),
      )

  on_turns : (c more : ℕ) (s t : State Picture) (n : ℕ) → turns_from code input l depth c s n ≡ (Arrived, t)
      → (turns_from code input l depth (c + more) s n ≡ turns_from code input l depth more t n)
      × (turns_log code input l depth (c + more) s n ≡ turns_log code input l depth c s n ++ turns_log code input l depth more t n)
  on_turns zero more s t n h =
      let same : s ≡ t = ap (λ (r : TurnEnd × State Picture). r.1) h in
      rw (after_zero more, same) (refl, refl)
  on_turns (suc c) more s t n h =
      let q = (turn_from code input l depth s n).1 in
      let b = begins c n s t h in
      let rest = on_turns c more q t n b.1 in
      rw (after_suc c more) (
        turns_first (c + more) n s q b.0 ∙ rest.0,
        turns_log_first (c + more) n s q b.0 ∙ (ap (λ (log : List Event). turn_log code input l depth s n ++ log) rest.1
            ∙ (sym (append_assoc (turn_log code input l depth s n) (turns_log code input l depth c q n) (turns_log code input l depth more t n))
            ∙ ap (λ (log : List Event). log ++ turns_log code input l depth more t n) (sym (turns_log_first c n s q b.0)))),
      )

  runs : (c : ℕ) (s t : State Picture) (n : ℕ) → turns_from code input l depth c s n ≡ (Arrived, t) → AreRun code input l depth c s n t
  runs zero s t n h =
      let same : s ≡ t = ap (λ (r : TurnEnd × State Picture). r.1) h in
      record { count = 0; counted = omega (arith, ap (λ (v : State Picture). v.steps) same); run = ap (λ (v : State Picture). (run.Spent, v)) same; log = refl }
  runs (suc c) s t n h =
      let q = (turn_from code input l depth s n).1 in
      let b = begins c n s t h in
      let one = turn_is_run code input l depth s q n Arrived b.0 in
      let rest = runs c q t n b.1 in
      let on = run_goes_on code input s q one.count rest.count one.run in
      record {
        count = one.count + rest.count;
        counted = omega (arith, one.counted, rest.counted);
        run = on.0 ∙ rest.run;
        log = turns_log_first c n s q b.0 ∙ (ap (λ (log : List Event). log ++ turns_log code input l depth c q n) one.log
            ∙ (ap (λ (log : List Event). run_log code input s one.count ++ log) rest.log ∙ sym on.1));
      }

pub turns_are_settled : TurnsAreSettled
turns_are_settled code input l depth c s t n more h le = settled_turns code input l depth c s t n more h le

pub turns_are_one : TurnsAreOne
turns_are_one code input l c s t u (n, a) (m, b) =
    let depth = length s.frames in
    let x = (settled_turns code input l depth c s t n (n + m) a (omega arith)).0 in
    let y = (settled_turns code input l depth c s u m (n + m) b (omega arith)).0 in
    ap (λ (r : TurnEnd × State Picture). r.1) (sym x ∙ y)

pub turns_go_on : TurnsGoOn
turns_go_on code input l depth c more s t n h = on_turns code input l depth c more s t n h

pub turns_are_run : TurnsAreRun
turns_are_run code input l depth c s t n h = runs code input l depth c s t n h
