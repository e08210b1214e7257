-- A turn that arrives ends at the first state that stands at the header again.
use Rattle.std.proofs.Common.{◌≡◌, ℕ, zero, suc, ◌<◌, refl, sym, ap, ◌∙◌, arith}
use Rattle.int_num.specs.Integer.{Integer}
use Rattle.pv_base.specs.Outside.{Text}
use Rattle.pv_base.specs.declared.place.Site.{Site}
use Rattle.ir_code.specs.declared.code.Code.{Code}
use Rattle.mem_image.specs.declared.fault.Trap.{Trap as TrapWord}
use Rattle.mem_image.specs.Picture.{Picture}
use Rattle.seq_machine.specs.declared.state.State.{State}
use Rattle.seq_machine.specs.declared.state.Step.{Step}
use Rattle.seq_machine.specs.declared.state.Step.TheVariants as step
use Rattle.seq_machine.specs.declared.state.End.{End}
use Rattle.seq_machine.specs.declared.state.End.TheVariants as run
use Rattle.seq_machine.specs.Step.{goes_on, step as one_step, steps_from}
use Rattle.turn_laws.specs.Turns.{Loop, Standing, AtHeader, Within, Outside, standing, TurnEnd, Arrived, Left, Ended, Trapped, Spent, by_standing, turn_goes, turn_from}
use Rattle.turn_laws.specs.Laws.{IsFirst, ArrivedIsFirst, FirstIsArrived, LeftIsFirst, FirstIsLeft}
use Rattle.turn_laws.proofs.Turns.{no_check, steps_first, turn_first}

-- of one step, whatever it answers, the state after it
pub one_on : (x : Step) (u : State Picture) → (goes_on x u (run.Spent, u)).1 ≡ u
one_on step.Next u = refl
one_on (step.Ended v) u = refl
one_on (step.Trap v site) u = refl
one_on (step.Failed f site) u = refl

module _ (code : Code) (input : Text) (l : Loop) (depth : ℕ) where
  -- the states after a first step stand as those after the state that it leads to
  pub stands_first : (s u : State Picture) (k : ℕ) (w : Standing) → one_step code input s ≡ (step.Next, u) → standing code l depth (steps_from code input s (suc (suc k))).1.frames ≡ w → standing code l depth (steps_from code input u (suc k)).1.frames ≡ w
  stands_first s u k w e h = ap (λ (r : End × State Picture). standing code l depth r.1.frames) (sym (steps_first code input s step.Next u e (suc k))) ∙ h

  -- the states between, one more of them
  pub one_more : (s u : State Picture) (k : ℕ) → one_step code input s ≡ (step.Next, u) → standing code l depth u.frames ≡ Within
      → ((i : ℕ) → i < k → standing code l depth (steps_from code input u (suc i)).1.frames ≡ Within) → (i : ℕ) → i < suc k → standing code l depth (steps_from code input s (suc i)).1.frames ≡ Within
  one_more s u k e at inside zero lt = ap (λ (r : End × State Picture). standing code l depth r.1.frames) (steps_first code input s step.Next u e 0) ∙ at
  one_more s u k e at inside (suc i) lt = ap (λ (r : End × State Picture). standing code l depth r.1.frames) (steps_first code input s step.Next u e (suc i)) ∙ inside i (omega arith)

-- the end of a turn that comes from where a state stands
pub record Ending (w : Standing) (e : TurnEnd) : Type 0 where
  pub gives : (u : State Picture) (rest : TurnEnd × State Picture) → by_standing w u rest ≡ (e, u)
  pub header : Arrived ≡ e → w ≡ AtHeader
  pub outside : Left ≡ e → w ≡ Outside
  pub ended : (v : Integer) → Ended v ≡ e → ⊥
  pub trapped : (v : TrapWord) (site : Site) → Trapped v site ≡ e → ⊥
  pub spent : Spent ≡ e → ⊥

arriving : Ending AtHeader Arrived
arriving = record { gives = λ u rest. refl; header = λ q. refl; outside = λ q. cc; ended = λ v q. cc; trapped = λ v site q. cc; spent = λ q. cc }

leaving : Ending Outside Left
leaving = record { gives = λ u rest. refl; header = λ q. cc; outside = λ q. refl; ended = λ v q. cc; trapped = λ v site q. cc; spent = λ q. cc }

module _ (code : Code) (input : Text) (l : Loop) (depth : ℕ) (w : Standing) (end : TurnEnd) (ending : Ending w end) where
  end_is : (e : TurnEnd) (s t : State Picture) → ◌≡◌ {A = TurnEnd × State Picture} (e, s) (end, t) → e ≡ end
  end_is e s t h = ap (λ (r : TurnEnd × State Picture). r.0) h

  -- where the state after one step stands so
  at_once : (s t : State Picture) (n : ℕ) (e : TurnEnd) (v : Standing) (u : State Picture) → one_step code input s ≡ (step.Next, u) → standing code l depth u.frames ≡ v → w ≡ v → ◌≡◌ {A = TurnEnd × State Picture} (e, u) (end, t) → IsFirst code input l depth s (suc n) w t
  at_once s t n e v u is at so h =
      let same : u ≡ t = ap (λ (r : TurnEnd × State Picture). r.1) h in
      record {
        between = 0;
        within = omega arith;
        run = steps_first code input s step.Next u is 0 ∙ ap (λ (x : State Picture). (run.Spent, x)) same;
        stands = ap (λ (x : State Picture). standing code l depth x.frames) (sym same) ∙ (at ∙ sym so);
        inside = λ i lt. absurd (omega arith);
      }

  is_first : (s t : State Picture) (n : ℕ) (x : Step) (v : Standing) (u : State Picture) → one_step code input s ≡ (x, u) → standing code l depth u.frames ≡ v
      → (turn_from code input l depth u n ≡ (end, t) → IsFirst code input l depth u n w t)
      → turn_goes x v u (turn_from code input l depth u n) ≡ (end, t) → IsFirst code input l depth s (suc n) w t
  is_first s t n step.Next Within u e at again h =
      let next = again h in
      record {
        between = suc next.between;
        within = omega (arith, next.within);
        run = steps_first code input s step.Next u e (suc next.between) ∙ next.run;
        stands = next.stands;
        inside = one_more code input l depth s u next.between e at next.inside;
      }
  is_first s t n step.Next AtHeader u e at again h = at_once s t n Arrived AtHeader u e at (ending.header (end_is Arrived u t h)) h
  is_first s t n step.Next Outside u e at again h = at_once s t n Left Outside u e at (ending.outside (end_is Left u t h)) h
  is_first s t n (step.Ended i) v u e at again h = absurd (ending.ended i (end_is (Ended i) u t h))
  is_first s t n (step.Trap i site) v u e at again h = absurd (ending.trapped i site (end_is (Trapped i site) u t h))
  is_first s t n (step.Failed f site) v u e at again h = absurd (ending.spent (end_is Spent u t h))

  pub first_after : (s t : State Picture) (n : ℕ) → turn_from code input l depth s n ≡ (end, t) → IsFirst code input l depth s n w t
  first_after s t zero h = absurd (ending.spent (end_is Spent s t h))
  first_after s t (suc n) h =
      is_first s t n (one_step code input s).0 (standing code l depth (one_step code input s).1.frames) (one_step code input s).1 refl refl (first_after (one_step code input s).1 t n) h

  -- ---- and back

  module _ (t : State Picture) (stands : standing code l depth t.frames ≡ w) where
    no_run : {P : Type 0} (e : End) (s : State Picture) → (e ≡ run.Spent → ⊥) → ◌≡◌ {A = End × State Picture} (e, s) (run.Spent, t) → P
    no_run e s differs h = absurd (differs (ap (λ (r : End × State Picture). r.0) h))

    arrives_now : (s : State Picture) (n : ℕ) (x : Step) (u : State Picture) → one_step code input s ≡ (x, u) → goes_on x u (run.Spent, u) ≡ (run.Spent, t) → turn_from code input l depth s (suc n) ≡ (end, t)
    arrives_now s n step.Next u e h =
        let same : u ≡ t = ap (λ (r : End × State Picture). r.1) h in
        turn_first code input s step.Next u e l depth n
        ∙ (ap (λ (v : Standing). by_standing v u (turn_from code input l depth u n)) (ap (λ (v : State Picture). standing code l depth v.frames) same ∙ stands)
        ∙ (ending.gives u (turn_from code input l depth u n) ∙ ap (λ (v : State Picture). (end, v)) same))
    arrives_now s n (step.Ended v) u e h = no_run (run.Ended v) u (λ q. cc) h
    arrives_now s n (step.Trap v site) u e h = no_run (run.Trapped v site) u (λ q. cc) h
    arrives_now s n (step.Failed f site) u e h = absurd (no_check code input s f site u e)

    arrives_later : (s : State Picture) (n k : ℕ) (x : Step) (u : State Picture) → one_step code input s ≡ (x, u) → standing code l depth u.frames ≡ Within
        → (x ≡ step.Next → steps_from code input u (suc k) ≡ (run.Spent, t) → turn_from code input l depth u n ≡ (end, t))
        → goes_on x u (steps_from code input u (suc k)) ≡ (run.Spent, t) → turn_from code input l depth s (suc n) ≡ (end, t)
    arrives_later s n k step.Next u e at again h =
        turn_first code input s step.Next u e l depth n ∙ (ap (λ (v : Standing). by_standing v u (turn_from code input l depth u n)) at ∙ again refl h)
    arrives_later s n k (step.Ended v) u e at again h = no_run (run.Ended v) u (λ q. cc) h
    arrives_later s n k (step.Trap v site) u e at again h = no_run (run.Trapped v site) u (λ q. cc) h
    arrives_later s n k (step.Failed f site) u e at again h = absurd (no_check code input s f site u e)

    pub arrives : (s : State Picture) (n k : ℕ) → k < n → steps_from code input s (suc k) ≡ (run.Spent, t)
        → ((i : ℕ) → i < k → standing code l depth (steps_from code input s (suc i)).1.frames ≡ Within) → turn_from code input l depth s n ≡ (end, t)
    arrives s zero k lt h inside = absurd (omega arith)
    arrives s (suc n) zero lt h inside = arrives_now s n (one_step code input s).0 (one_step code input s).1 refl h
    arrives s (suc n) (suc k) lt h inside =
        let x = (one_step code input s).0 in
        let u = (one_step code input s).1 in
        arrives_later s n k x u refl (ap (λ (v : State Picture). standing code l depth v.frames) (sym (one_on x u)) ∙ inside 0 (omega arith))
        (λ q g. arrives u n k (omega arith) g (λ i less. stands_first code input l depth s u i Within (ap (λ (y : Step). (y, u)) q) (inside (suc i) (omega arith)))) h

pub arrived_is_first : ArrivedIsFirst
arrived_is_first code input l depth s t n h = first_after code input l depth AtHeader Arrived arriving s t n h

pub first_is_arrived : FirstIsArrived
first_is_arrived code input l depth s t n h = arrives code input l depth AtHeader Arrived arriving t h.stands s n h.between h.within h.run h.inside

pub left_is_first : LeftIsFirst
left_is_first code input l depth s t n h = first_after code input l depth Outside Left leaving s t n h

pub first_is_left : FirstIsLeft
first_is_left code input l depth s t n h = arrives code input l depth Outside Left leaving t h.stands s n h.between h.within h.run h.inside
