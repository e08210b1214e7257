-- A step, and a run, keep what the frames own and the globals.
use Rattle.std.proofs.Common.{◌≡◌, ◌-◌, ℕ, zero, suc, List, [], ◌∷◌, ◌++◌, length, Option, Some, None, Result, Ok, Err, Bool, true, false, refl, ap, subst, slice_get, if◌then◌else◌}
use Rattle.pv_base.specs.Outside.{Text}
use Rattle.ir_code.specs.declared.op.Op.{Op}
use Rattle.ir_code.specs.declared.code.FunctionCode.{FunctionCode}
use Rattle.ir_code.specs.declared.code.Code.{Code}
use Rattle.mem_image.specs.declared.fault.Trap.{Trap as TrapWord}
use Rattle.mem_image.specs.declared.fault.Trap.TheVariants.{Unreachable}
use Rattle.mem_image.specs.Picture.{Picture, IsPicture, size_of}
use Rattle.mem_image.specs.Calls.{Reply, does}
use Rattle.seq_effects.specs.declared.state.Frame.{Frame}
use Rattle.seq_effects.specs.Script.{Script, Gives, Stops, Sizes, Asks, tell, chain, outcome}
use Rattle.seq_machine.specs.declared.state.State.{State}
use Rattle.seq_machine.specs.declared.state.End.{End}
use Rattle.seq_machine.specs.declared.state.Step.{Step}
use Rattle.seq_machine.specs.declared.state.Step.TheVariants.{Next, Ended, Trap as Trapped, Failed}
use Rattle.seq_machine.specs.Acts.{Control, Acted, acted, top, function_at, op_at}
use Rattle.seq_machine.specs.Meaning.{meaning}
use Rattle.seq_machine.specs.Owned.{owned, AreSlots, OwnOf}
use Rattle.seq_machine.specs.Step.{here, has_next, script_in, script_of, script, control, finish, step, goes_on, steps_from, StateOf}
use Rattle.seq_machine.proofs.Slots.{slots_front}
use Rattle.seq_machine.proofs.Owns.{acted_own}
use Rattle.global_laws.specs.Globals.{KeepsGlobals}
use Rattle.global_laws.specs.Laws.{IsOwned}
use Rattle.global_laws.proofs.Shapes.{Keeps}
use Rattle.global_laws.proofs.Steps.{Left, instruction_left}

-- ---- what a frame owns

slots_back : (m : Picture) (xs ys : List ℕ) → AreSlots m (xs ++ ys) → AreSlots m ys
slots_back m [] ys h = h
slots_back m (x ∷ xs) ys h = slots_back m xs ys h.1

slots_at : (m : Picture) (frames : List Frame) (i : ℕ) (f : Frame) → slice_get frames i ≡ Some f → AreSlots m (owned frames) → AreSlots m f.own
slots_at m [] i f e h = absurd (cc)
slots_at m (x ∷ xs) zero f e h = let s : x ≡ f = cc in subst (λ (y : Frame). AreSlots m y.own) s (slots_front m x.own (owned xs) h)
slots_at m (x ∷ xs) (suc i) f e h = slots_at m xs i f e (slots_back m x.own (owned xs) h)

-- ---- one tree after another

chain_ok : {A B : Type 0} (s : Script A) (k : A → Script B) (m n : Picture) (b : B) → outcome (chain s k) m ≡ (Ok b, n) → (a : A) × (l : Picture) × (outcome s m ≡ (Ok a, l)) × (outcome (k a) l ≡ (Ok b, n))
chain_ok (Gives a) k m n b e = (a, m, refl, e)
chain_ok {B = B} (Stops t) k m n b e = let q : Err t ≡ Ok b = ap (λ (x : Result B TrapWord × Picture). x.0) e in absurd (cc)
chain_ok (Sizes p j) k m n b e = chain_ok (j (size_of m p)) k m n b e
chain_ok {A = A} {B = B} (Asks call j) k m n b e = go (λ r l f. chain_ok (j r) k l n b f) (does m call) e
  where
    go : ((r : Reply) (l : Picture) → outcome (chain (j r) k) l ≡ (Ok b, n) → (a : A) × (o : Picture) × (outcome (j r) l ≡ (Ok a, o)) × (outcome (k a) o ≡ (Ok b, n))) → (d : Result (Reply × Picture) TrapWord)
        → (elim d as (λ _. Result B TrapWord × Picture) [ Ok r ↦ outcome (chain (j r.0) k) r.1 | Err t ↦ (Err t, m) ]) ≡ (Ok b, n)
        → (a : A) × (o : Picture) × ((elim d as (λ _. Result A TrapWord × Picture) [ Ok r ↦ outcome (j r.0) r.1 | Err t ↦ (Err t, m) ]) ≡ (Ok a, o)) × (outcome (k a) o ≡ (Ok b, n))
    go again (Ok r) f = again r.0 r.1 f
    go again (Err t) f = let q : Err t ≡ Ok b = ap (λ (x : Result B TrapWord × Picture). x.0) f in absurd (cc)

told : (x : Result Acted TrapWord) (a : Acted) (l n : Picture) → outcome (tell x) l ≡ (Ok a, n) → (x ≡ Ok a) × (l ≡ n)
told (Ok b) a l n e = (ap (λ (x : Result Acted TrapWord × Picture). x.0) e, ap (λ (x : Result Acted TrapWord × Picture). x.1) e)
told (Err t) a l n e = let q : Err t ≡ Ok a = ap (λ (x : Result Acted TrapWord × Picture). x.0) e in absurd (cc)

-- ---- the tree of a step

abbrev Done : Picture → Acted → Picture → Type 0
Done m a n = IsPicture n × OwnOf a.control.frames n × Keeps m n

module _ (code : Code) (input : Text) (c : Control) (m n : Picture) (p : IsPicture m) (h : OwnOf c.frames m) (a : Acted) where
  no_stop : (t : TrapWord) → outcome (Stops t) m ≡ (Ok a, n) → Done m a n
  no_stop t e = let q : Err t ≡ Ok a = ap (λ (x : Result Acted TrapWord × Picture). x.0) e in absurd (cc)

  performed : (f : Frame) (g : FunctionCode) (o : Op) → top c.frames ≡ Some f → outcome (chain (meaning (here code g f input c.input_place) o) (λ e. tell (acted code g f c e))) m ≡ (Ok a, n) → Done m a n
  performed f g o t e =
      let x = chain_ok (meaning (here code g f input c.input_place) o) (λ e. tell (acted code g f c e)) m n a e in
      let own : AreSlots m f.own = slots_at m c.frames (length c.frames - 1) f t h.slots in
      let q = told (acted code g f c x.0) a x.1 n x.3 in
      let left = subst (λ (l : Picture). Left x.0 f m l) q.1 (instruction_left (here code g f input c.input_place) o x.0 m x.1 p own x.2) in
      (left.0, acted_own code g f c a m n p h t x.0 left.1 q.0, left.2)

  inner : (f : Frame) (og : Option FunctionCode) (oo : Option Op) → top c.frames ≡ Some f → outcome (script_in code input c f og oo) m ≡ (Ok a, n) → Done m a n
  inner f (Some g) (Some o) t e = go (has_next code f o) e
    where
      go : (b : Bool) → outcome (if b then chain (meaning (here code g f input c.input_place) o) (λ e. tell (acted code g f c e)) else Stops Unreachable) m ≡ (Ok a, n) → Done m a n
      go true e = performed f g o t e
      go false e = no_stop Unreachable e
  inner f None oo t e = no_stop Unreachable e
  inner f (Some g) None t e = no_stop Unreachable e

  pub script_keeps : (o : Option Frame) → top c.frames ≡ o → outcome (script_of code input c o) m ≡ (Ok a, n) → Done m a n
  script_keeps (Some f) t e = inner f (function_at code f) (op_at code f) t e
  script_keeps None t e = no_stop Unreachable e

-- ---- a step

pub states_are_owned : (code : Code) (s : State Picture) → StateOf code s → IsOwned s
states_are_owned code s h = record { memory = h.memory; own = h.own }

step_after : (code : Code) (input : Text) (s : State Picture) → IsOwned s → IsOwned (step code input s).1 × Keeps s.memory (step code input s).1.memory
step_after code input s h =
    go (outcome (script code input (control s)) s.memory).0 (outcome (script code input (control s)) s.memory).1 refl
  where
    go : (x : Result Acted TrapWord) (n : Picture) → outcome (script code input (control s)) s.memory ≡ (x, n) → IsOwned (finish code s (x, n)).1 × Keeps s.memory (finish code s (x, n)).1.memory
    go (Err t) n e = (record { memory = h.memory; own = h.own }, λ first k. k)
    go (Ok a) n e =
        let d = script_keeps code input (control s) s.memory n h.memory h.own a (top s.frames) refl e in
        (record { memory = d.0; own = d.1 }, d.2)

pub step_keeps_owned : (code : Code) (input : Text) (s : State Picture) → IsOwned s → IsOwned (step code input s).1
step_keeps_owned code input s h = (step_after code input s h).0

pub step_keeps_globals : (code : Code) (input : Text) (first : Picture) (s : State Picture) → IsOwned s → KeepsGlobals first s.memory → KeepsGlobals first (step code input s).1.memory
step_keeps_globals code input first s h k = (step_after code input s h).1 first k

-- ---- a run

either : (P : State Picture → Type 0) (x : Step) (s : State Picture) (rest : End × State Picture) → P s → P rest.1 → P (goes_on x s rest).1
either P Next s rest k r = r
either P (Ended v) s rest k r = k
either P (Trapped t site) s rest k r = k
either P (Failed f site) s rest k r = k

pub run_keeps_owned : (code : Code) (input : Text) (n : ℕ) (s : State Picture) → IsOwned s → IsOwned (steps_from code input s n).1
run_keeps_owned code input zero s h = h
run_keeps_owned code input (suc n) s h =
    let stood = step_keeps_owned code input s h in
    either IsOwned (step code input s).0 (step code input s).1 (steps_from code input (step code input s).1 n) stood (run_keeps_owned code input n (step code input s).1 stood)

pub run_keeps_globals : (code : Code) (input : Text) (n : ℕ) (first : Picture) (s : State Picture) → IsOwned s → KeepsGlobals first s.memory → KeepsGlobals first (steps_from code input s n).1.memory
run_keeps_globals code input zero first s h k = k
run_keeps_globals code input (suc n) first s h k =
    let stood = step_keeps_globals code input first s h k in
    either (λ x. KeepsGlobals first x.memory) (step code input s).0 (step code input s).1 (steps_from code input (step code input s).1 n) stood
    (run_keeps_globals code input n first (step code input s).1 (step_keeps_owned code input s h) stood)
