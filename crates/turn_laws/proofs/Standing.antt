-- Where states stand, and turns that are not over yet.
use Rattle.std.proofs.Common.{◌≡◌, ℕ, zero, suc, ◌+◌, ◌<◌, ◌==◌, Bool, true, false, List, [], ◌∷◌, ◌++◌, length, Option, Some, None, refl, sym, ap, ◌∙◌, arith, eqb-true, eq-eqb}
use Rattle.std.specs.Prelude.{position, nat_lt, ◌&&◌, option_and_then, if◌then◌else◌}
use Rattle.std.proofs.lemmas.List.{append_assoc}
use Rattle.pv_base.specs.Outside.{Text}
use Rattle.ir_code.specs.declared.code.Code.{Code}
use Rattle.mem_image.specs.Picture.{Picture}
use Rattle.seq_effects.specs.declared.state.Frame.{Frame}
use Rattle.seq_machine.specs.declared.state.State.{State}
use Rattle.seq_machine.specs.declared.state.Step.{Step}
use Rattle.seq_machine.specs.declared.state.Step.TheVariants as step
use Rattle.seq_machine.specs.declared.state.End.{End}
use Rattle.seq_machine.specs.declared.state.End.TheVariants as run
use Rattle.seq_machine.specs.Acts.{top, block_at, phis_of}
use Rattle.seq_machine.specs.Step.{goes_on, step as one_step, steps_from}
use Rattle.seq_run.specs.Headers.{is_header, header_at, header_of}
use Rattle.turn_laws.specs.Events.{Event}
use Rattle.turn_laws.specs.Turns.{Loop, Standing, AtHeader, Within, Outside, is_within, frame_stands, standing, TurnEnd, Arrived, Left, Ended, Trapped, Spent, by_standing, turn_goes, turn_from}
use Rattle.turn_laws.specs.Traces.{step_log, log_within, run_log, turn_log}
use Rattle.turn_laws.specs.Laws.{HeaderIsStop, SpentIsWithin, WithinGoesOn}
use Rattle.turn_laws.proofs.Turns.{no_check, steps_first, log_first, turn_first, turn_log_first, after_zero, after_suc}
use Rattle.turn_laws.proofs.Firsts.{stands_first, one_more, one_on}

-- ---- at the header

no_header : (c : Bool) → (if c then Within else Outside) ≡ AtHeader → ⊥
no_header true h = cc
no_header false h = cc

stop_there : (f : Frame) (l : Loop) (c : Bool) (a b : Bool) → is_header f l.header ≡ a → (if a && b then AtHeader else if c then Within else Outside) ≡ AtHeader → (if b then position (is_header f) (l.header ∷ []) else None) ≡ Some 0
stop_there f l c true true e h = rw e refl
stop_there f l c true false e h = absurd (no_header c h)
stop_there f l c false b e h = absurd (no_header c h)

header_there : (f : Frame) (l : Loop) (c : Bool) (a b : Bool) → is_header f l.header ≡ a → (if b then position (is_header f) (l.header ∷ []) else None) ≡ Some 0 → (if a && b then AtHeader else if c then Within else Outside) ≡ AtHeader
header_there f l c true true e h = refl
header_there f l c false true e h = let q : ◌≡◌ {A = Option ℕ} None (Some 0) = rw e at h in absurd (cc)
header_there f l c a false e h = absurd (cc)

stop_top : (code : Code) (l : Loop) (o : Option Frame) → frame_stands code l o ≡ AtHeader → option_and_then (header_at code (l.header ∷ [])) o ≡ Some 0
stop_top code l (Some f) h = stop_there f l (is_within l f) (is_header f l.header) (f.place == phis_of (block_at code f)) refl h
stop_top code l None h = absurd (cc)

header_top : (code : Code) (l : Loop) (o : Option Frame) → option_and_then (header_at code (l.header ∷ [])) o ≡ Some 0 → frame_stands code l o ≡ AtHeader
header_top code l (Some f) h = header_there f l (is_within l f) (is_header f l.header) (f.place == phis_of (block_at code f)) refl h
header_top code l None h = absurd (cc)

pub header_is_stop : HeaderIsStop
header_is_stop code l depth frames = (stops (length frames == depth) refl, λ h. rw (eq-eqb (length frames) depth h.0) (header_top code l (top frames) h.1))
  where
    stops : (b : Bool) → (length frames == depth) ≡ b → (if b then frame_stands code l (top frames) else if nat_lt depth (length frames) then Within else Outside) ≡ AtHeader → (length frames ≡ depth) × (header_of code (l.header ∷ []) frames ≡ Some 0)
    stops true e h = (eqb-true (length frames) depth e, stop_top code l (top frames) h)
    stops false e h = absurd (no_header (nat_lt depth (length frames)) h)

-- ---- a turn that is not over yet

module _ (code : Code) (input : Text) (l : Loop) (depth : ℕ) where
  -- what goes on from the state after a first step, goes on from the first
  passes : (s t : State Picture) (n more : ℕ) (x : Step) (u : State Picture) → one_step code input s ≡ (x, u) → standing code l depth u.frames ≡ Within
      → (x ≡ step.Next → steps_from code input u n ≡ (run.Spent, t) → (turn_from code input l depth u (n + more) ≡ turn_from code input l depth t more) × (turn_log code input l depth u (n + more) ≡ run_log code input u n ++ turn_log code input l depth t more))
      → goes_on x u (steps_from code input u n) ≡ (run.Spent, t)
      → (turn_from code input l depth s (suc (n + more)) ≡ turn_from code input l depth t more) × (turn_log code input l depth s (suc (n + more)) ≡ run_log code input s (suc n) ++ turn_log code input l depth t more)
  passes s t n more step.Next u e at again h =
      let next = again refl h in (
        turn_first code input s step.Next u e l depth (n + more) ∙ (ap (λ (v : Standing). by_standing v u (turn_from code input l depth u (n + more))) at ∙ next.0),
        turn_log_first code input s step.Next u e l depth (n + more) ∙ (ap (λ (v : Standing). step_log code input s ++ log_within v (turn_log code input l depth u (n + more))) at
            ∙ (ap (λ (log : List Event). step_log code input s ++ log) next.1
            ∙ (sym (append_assoc (step_log code input s) (run_log code input u n) (turn_log code input l depth t more))
            ∙ ap (λ (log : List Event). log ++ turn_log code input l depth t more) (sym (log_first code input s step.Next u e n))))),
      )
  passes s t n more (step.Ended v) u e at again h = let q : run.Ended v ≡ run.Spent = ap (λ (r : End × State Picture). r.0) h in absurd (cc)
  passes s t n more (step.Trap v site) u e at again h = let q : run.Trapped v site ≡ run.Spent = ap (λ (r : End × State Picture). r.0) h in absurd (cc)
  passes s t n more (step.Failed f site) u e at again h = absurd (no_check code input s f site u e)

  goes_within : (s t : State Picture) (n more : ℕ) → steps_from code input s n ≡ (run.Spent, t)
      → ((i : ℕ) → i < n → standing code l depth (steps_from code input s (suc i)).1.frames ≡ Within)
      → (turn_from code input l depth s (n + more) ≡ turn_from code input l depth t more) × (turn_log code input l depth s (n + more) ≡ run_log code input s n ++ turn_log code input l depth t more)
  goes_within s t zero more h inside =
      let same : s ≡ t = ap (λ (r : End × State Picture). r.1) h in
      rw (after_zero more, same) (refl, refl)
  goes_within s t (suc n) more h inside =
      let x = (one_step code input s).0 in
      let u = (one_step code input s).1 in
      rw (after_suc n more) (passes s t n more x u refl (ap (λ (v : State Picture). standing code l depth v.frames) (sym (one_on x u)) ∙ inside 0 (omega arith))
      (λ q g. goes_within u t n more g (λ i lt. stands_first code input l depth s u i Within (ap (λ (y : Step). (y, u)) q) (inside (suc i) (omega arith)))) h)

pub within_goes_on : WithinGoesOn
within_goes_on code input l depth s t n more h inside = goes_within code input l depth s t n more h inside

-- ---- a turn that is spent

module _ (code : Code) (input : Text) (l : Loop) (depth : ℕ) where
  no_spent : {P : Type 0} (e : TurnEnd) (s t : State Picture) → (e ≡ Spent → ⊥) → ◌≡◌ {A = TurnEnd × State Picture} (e, s) (Spent, t) → P
  no_spent e s t differs h = absurd (differs (ap (λ (r : TurnEnd × State Picture). r.0) h))

  -- the steps that a spent turn took, and where they led
  abbrev Taken : State Picture → ℕ → State Picture → Type 0
  Taken s n t = (steps_from code input s n ≡ (run.Spent, t)) × ((i : ℕ) → i < n → standing code l depth (steps_from code input s (suc i)).1.frames ≡ Within)

  spent_more : (s t : State Picture) (n : ℕ) (x : Step) (w : Standing) (u : State Picture) → one_step code input s ≡ (x, u) → standing code l depth u.frames ≡ w
      → (turn_from code input l depth u n ≡ (Spent, t) → Taken u n t) → turn_goes x w u (turn_from code input l depth u n) ≡ (Spent, t) → Taken s (suc n) t
  spent_more s t n step.Next Within u e at again h = let next = again h in (steps_first code input s step.Next u e n ∙ next.0, one_more code input l depth s u n e at next.1)
  spent_more s t n step.Next AtHeader u e at again h = no_spent Arrived u t (λ q. cc) h
  spent_more s t n step.Next Outside u e at again h = no_spent Left u t (λ q. cc) h
  spent_more s t n (step.Ended v) w u e at again h = no_spent (Ended v) u t (λ q. cc) h
  spent_more s t n (step.Trap v site) w u e at again h = no_spent (Trapped v site) u t (λ q. cc) h
  spent_more s t n (step.Failed f site) w u e at again h = absurd (no_check code input s f site u e)

  spent_after : (s t : State Picture) (n : ℕ) → turn_from code input l depth s n ≡ (Spent, t) → Taken s n t
  spent_after s t zero h = (ap (λ (r : TurnEnd × State Picture). (run.Spent, r.1)) h, λ i lt. absurd (omega arith))
  spent_after s t (suc n) h =
      spent_more s t n (one_step code input s).0 (standing code l depth (one_step code input s).1.frames) (one_step code input s).1 refl refl (spent_after (one_step code input s).1 t n) h

pub spent_is_within : SpentIsWithin
spent_is_within code input l depth s t n h = spent_after code input l depth s t n h
