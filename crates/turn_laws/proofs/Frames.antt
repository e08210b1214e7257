-- The frames below the one that runs a loop stay through a turn.
use Rattle.std.proofs.Common.{◌≡◌, ℕ, zero, suc, ◌+◌, ◌-◌, ◌<◌, ◌≤◌, ◌==◌, Bool, true, false, List, [], ◌∷◌, ◌++◌, length, map, take, slice_get, slice_set, Option, Some, None, Result, Ok, Err, refl, sym, ap, subst, ◌⊎◌, inl, inr, ◌∙◌, arith, eqb-true, length-set, if◌then◌else◌}
use Rattle.std.specs.Prelude.{IfOk, nat_lt}
use Rattle.std.proofs.lemmas.Bool.Decides.{nat_tests}
use Rattle.std.proofs.lemmas.List.{length-take-le, take-append-le}
use Rattle.pv_base.specs.Outside.{Text}
use Rattle.ir_code.specs.declared.code.Edge.{Edge as EdgeCode}
use Rattle.ir_code.specs.declared.code.FunctionCode.{FunctionCode}
use Rattle.ir_code.specs.declared.code.Code.{Code}
use Rattle.ir_code.specs.declared.op.Op.{Op}
use Rattle.mem_image.specs.declared.fault.Trap.{Trap as TrapWord}
use Rattle.mem_image.specs.declared.fault.Trap.TheVariants.{Unreachable, Depth, Output}
use Rattle.mem_image.specs.Picture.{Picture, size_of}
use Rattle.mem_image.specs.Calls.{Reply, does}
use Rattle.seq_effects.specs.declared.state.Value.{Value}
use Rattle.seq_effects.specs.declared.state.Frame.{Frame}
use Rattle.seq_effects.specs.declared.state.Effect.{Effect}
use Rattle.seq_effects.specs.declared.state.Effect.TheVariants as effect
use Rattle.seq_effects.specs.Flow.{may_stand}
use Rattle.seq_effects.specs.Values.{then_}
use Rattle.seq_effects.specs.Script.{Script, Gives, Stops, Sizes, Asks, tell, chain, outcome}
use Rattle.seq_machine.specs.declared.state.State.{State}
use Rattle.seq_machine.specs.declared.state.Step.{Step}
use Rattle.seq_machine.specs.declared.state.Step.TheVariants as step
use Rattle.seq_machine.specs.declared.state.End.{End}
use Rattle.seq_machine.specs.declared.state.End.TheVariants as run
use Rattle.seq_machine.specs.Acts.{Control, Acted, acted, going_on, ending, on_top, next, put, keep, put_if, put_result, resumed, resumed_top, result_register, bare, bare_top, back, exit_number, entered, taken, arrived, move_values, with_top, without_top, top, function_at, op_at, frame_limit, output_limit}
use Rattle.seq_machine.specs.Meaning.{meaning}
use Rattle.seq_machine.specs.Step.{here, has_next, script_in, script_of, script, control, finish, goes_on, step as one_step, steps_from}
use Rattle.turn_laws.specs.Turns.{Loop, Within, Outside, frame_stands, standing, TurnEnd, Arrived, turn_from, KeepsFrames}
use Rattle.turn_laws.specs.Laws.{RunKeepsFrames, TurnsKeepFrames}
use Rattle.turn_laws.proofs.Turns.{no_check, steps_first}
use Rattle.turn_laws.proofs.Firsts.{one_on, arrived_is_first}
use Rattle.turn_laws.proofs.Standing.{header_is_stop}
use Rattle.turn_laws.proofs.Settled.{begins}

-- ---- lists

take_set : {A : Type 0} (xs : List A) (i k : ℕ) (x : A) → k ≤ i → take k (slice_set xs i x) ≡ take k xs
take_set [] i k x le = refl
take_set (y ∷ ys) i zero x le = refl
take_set (y ∷ ys) zero (suc k) x le = absurd (omega arith)
take_set (y ∷ ys) (suc i) (suc k) x le = ap (λ (zs : List _). y ∷ zs) (take_set ys i k x (omega arith))

take_take : {A : Type 0} (xs : List A) (k n : ℕ) → k ≤ n → take k (take n xs) ≡ take k xs
take_take xs zero n le = refl
take_take xs (suc k) zero le = absurd (omega arith)
take_take [] (suc k) (suc n) le = refl
take_take (y ∷ ys) (suc k) (suc n) le = ap (λ (zs : List _). y ∷ zs) (take_take ys k n (omega arith))

-- a frame of the same function in the place of another
functions_set : (frames : List Frame) (i k : ℕ) (f f' : Frame) → slice_get frames i ≡ Some f → f'.function ≡ f.function → map (λ (g : Frame). g.function) (take k (slice_set frames i f')) ≡ map (λ (g : Frame). g.function) (take k frames)
functions_set [] i k f f' e same = refl
functions_set (x ∷ xs) i zero f f' e same = refl
functions_set (x ∷ xs) zero (suc k) f f' e same = let q : x ≡ f = cc in ap (λ (n : ℕ). n ∷ map (λ (g : Frame). g.function) (take k xs)) (same ∙ ap (λ (g : Frame). g.function) (sym q))
functions_set (x ∷ xs) (suc i) (suc k) f f' e same = ap (λ (ns : List ℕ). x.function ∷ ns) (functions_set xs i k f f' e same)

-- ---- the frames of a state

keeps_same : (below : ℕ) (frames : List Frame) → KeepsFrames below frames frames
keeps_same below frames = record { frames = refl; functions = refl }

pub keeps_then : (below : ℕ) (old mid new : List Frame) → KeepsFrames below old mid → KeepsFrames below mid new → KeepsFrames below old new
keeps_then below old mid new h g = record { frames = g.frames ∙ h.frames; functions = g.functions ∙ h.functions }

keeps_top : (below : ℕ) (frames : List Frame) (f f' : Frame) → suc below ≤ length frames → top frames ≡ Some f → f'.function ≡ f.function → KeepsFrames below frames (with_top frames f')
keeps_top below frames f f' le t same = record {
  frames = take_set frames (length frames - 1) below f' (omega arith);
  functions = functions_set frames (length frames - 1) (suc below) f f' t same;
}

keeps_push : (below : ℕ) (frames : List Frame) (f : Frame) → suc below ≤ length frames → KeepsFrames below frames (frames ++ f ∷ [])
keeps_push below frames f le = record {
  frames = let h : below ≤ length frames = omega arith in rw take-append-le refl;
  functions = rw take-append-le refl;
}

keeps_without : (below : ℕ) (frames : List Frame) → suc below ≤ length (without_top frames) → KeepsFrames below frames (without_top frames)
keeps_without below frames le =
    let l : length (take (length frames - 1) frames) ≡ length frames - 1 = length-take-le (length frames - 1) frames (omega arith) in
    record {
      frames = take_take frames below (length frames - 1) (omega (arith, l, le));
      functions = ap (map (λ (g : Frame). g.function)) (take_take frames (suc below) (length frames - 1) (omega (arith, l, le)));
    }

-- ---- what an effect does

module _ (below : ℕ) (c : Control) where
  -- as many frames were there, and are
  abbrev Kept : Acted → Type 0
  Kept a = suc below ≤ length c.frames → suc below ≤ length a.control.frames → KeepsFrames below c.frames a.control.frames

  put_if_kept : (f : Frame) (to : Option ℕ) (v : Value) → (put_if f to v).function ≡ f.function
  put_if_kept f None v = refl
  put_if_kept f (Some to) v = refl

  put_result_kept : (f : Frame) (to : Option ℕ) (v : Option Value) → (put_result f to v).function ≡ f.function
  put_result_kept f None v = refl
  put_result_kept f (Some to) None = refl
  put_result_kept f (Some to) (Some v) = refl

  taken_kept : (g : FunctionCode) (f : Frame) (e : Option EdgeCode) → top c.frames ≡ Some f → IfOk (then_ (taken g f e) (λ f'. Ok (on_top c f'))) Kept
  taken_kept g f None t = tt
  taken_kept g f (Some e) t = go (may_stand (slice_get g.blocks e.to))
    where
      arrives : (vs : Result (List Value) TrapWord) → IfOk (then_ (then_ vs (λ xs. Ok (arrived g f e xs))) (λ f'. Ok (on_top c f'))) Kept
      arrives (Ok vs) = λ le less. keeps_top below c.frames f (arrived g f e vs) le t refl
      arrives (Err w) = tt

      go : (b : Bool) → IfOk (then_ (if b then then_ (move_values g f e.moves) (λ vs. Ok (arrived g f e vs)) else Err Unreachable) (λ f'. Ok (on_top c f'))) Kept
      go true = arrives (move_values g f e.moves)
      go false = tt

  resumed_kept : (code : Code) (frames : List Frame) (v : Option Value) (o : Option Frame) → top frames ≡ o → suc below ≤ length frames → KeepsFrames below frames (resumed_top code frames v o)
  resumed_kept code frames v None t le = keeps_same below frames
  resumed_kept code frames v (Some f) t le = keeps_top below frames f (resumed code f v) le t (put_result_kept f (result_register (op_at code f)) v)

  resumed_length : (code : Code) (frames : List Frame) (v : Option Value) (o : Option Frame) → length (resumed_top code frames v o) ≡ length frames
  resumed_length code frames v None = refl
  resumed_length code frames v (Some f) = length-set frames (length frames - 1) (resumed code f v)

  back_kept : (code : Code) (f : Frame) (v : Option Value) → top c.frames ≡ Some f → Kept (back code c v)
  back_kept code f v t = go (length c.frames == 1)
    where
      go : (b : Bool) → Kept (if b then ending (record c { frames = bare_top c.frames (top c.frames) }) (exit_number v) else going_on (record c { frames = resumed_top code (without_top c.frames) v (top (without_top c.frames)) }))
      go true = rw t (λ le less. keeps_top below c.frames f (bare f) le t refl)
      go false = λ le less.
          let l = resumed_length code (without_top c.frames) v (top (without_top c.frames)) in
          let still : suc below ≤ length (without_top c.frames) = omega (arith, l, less) in
          keeps_then below c.frames (without_top c.frames) (resumed_top code (without_top c.frames) v (top (without_top c.frames))) (keeps_without below c.frames still)
          (resumed_kept code (without_top c.frames) v (top (without_top c.frames)) refl still)

  if_kept : (b : Bool) (a : Acted) (w : TrapWord) → Kept a → IfOk (if b then Ok a else Err w) Kept
  if_kept true a w h = h
  if_kept false a w h = tt

  unless_kept : (b : Bool) (a : Acted) (w : TrapWord) → Kept a → IfOk (if b then Err w else Ok a) Kept
  unless_kept true a w h = tt
  unless_kept false a w h = h

  acted_kept : (code : Code) (g : FunctionCode) (f : Frame) (e : Effect) → top c.frames ≡ Some f → IfOk (acted code g f c e) Kept
  acted_kept code g f effect.Next t = λ le less. keeps_top below c.frames f (next f) le t refl
  acted_kept code g f (effect.Give to v) t = λ le less. keeps_top below c.frames f (put f to v) le t refl
  acted_kept code g f (effect.Keep to name) t = λ le less. keeps_top below c.frames f (keep f to name) le t refl
  acted_kept code g f (effect.Edge i) t = taken_kept g f (slice_get g.edges i) t
  acted_kept code g f (effect.Enter k registers) t =
      if_kept (nat_lt (length c.frames) frame_limit) (going_on (record c { frames = c.frames ++ entered code k registers ∷ [] })) Depth (λ le less. keeps_push below c.frames (entered code k registers) le)
  acted_kept code g f (effect.Back v) t = back_kept code f v t
  acted_kept code g f (effect.Exit n) t = λ le less. keeps_same below c.frames
  acted_kept code g f (effect.Print text to v) t =
      unless_kept (nat_lt output_limit (length c.output + length text)) (going_on (record c { frames = with_top c.frames (put_if f to v); output = c.output ++ text })) Output
      (λ le less. keeps_top below c.frames f (put_if f to v) le t (put_if_kept f to v))
  acted_kept code g f (effect.Take place to v) t = λ le less. keeps_top below c.frames f (put_if f to v) le t (put_if_kept f to v)

-- ---- what a tree may give

-- every value that it gives has this, whatever is replied
abbrev Offers : {A : Type 0} → (A → Type 0) → Script A → Type 0
Offers P (Gives a) = P a
Offers P (Stops t) = Unit {0}
Offers P (Sizes p k) = (size : Option ℕ) → Offers P (k size)
Offers P (Asks call k) = (r : Reply) → Offers P (k r)

offers_chain : {A B : Type 0} (P : B → Type 0) (s : Script A) (k : A → Script B) → ((a : A) → Offers P (k a)) → Offers P (chain s k)
offers_chain P (Gives a) k h = h a
offers_chain P (Stops t) k h = tt
offers_chain P (Sizes p j) k h = λ size. offers_chain P (j size) k h
offers_chain P (Asks call j) k h = λ r. offers_chain P (j r) k h

offers_told : {A : Type 0} (P : A → Type 0) (x : Result A TrapWord) → IfOk x P → Offers P (tell x)
offers_told P (Ok a) h = h
offers_told P (Err t) h = tt

offered : {A : Type 0} (P : A → Type 0) (s : Script A) (m : Picture) → Offers P s → IfOk (outcome s m).0 P
offered P (Gives a) m h = h
offered P (Stops t) m h = tt
offered P (Sizes p k) m h = offered P (k (size_of m p)) m (h (size_of m p))
offered {A = A} P (Asks call k) m h = go (λ r n. offered P (k r) n (h r)) (does m call)
  where
    go : ((r : Reply) (n : Picture) → IfOk (outcome (k r) n).0 P) → (d : Result (Reply × Picture) TrapWord) → IfOk (elim d as (λ _. Result A TrapWord × Picture) [ Ok p ↦ outcome (k p.0) p.1 | Err t ↦ (Err t, m) ]).0 P
    go again (Ok p) = again p.0 p.1
    go again (Err t) = tt

-- ---- a step

module _ (below : ℕ) (code : Code) (input : Text) (c : Control) where
  op_kept : (f : Frame) (og : Option FunctionCode) (oo : Option Op) → top c.frames ≡ Some f → Offers (Kept below c) (script_in code input c f og oo)
  op_kept f None oo t = tt
  op_kept f (Some g) None t = tt
  op_kept f (Some g) (Some o) t = go (has_next code f o)
    where
      go : (b : Bool) → Offers (Kept below c) (if b then chain (meaning (here code g f input c.input_place) o) (λ e. tell (acted code g f c e)) else Stops Unreachable)
      go true = offers_chain (Kept below c) (meaning (here code g f input c.input_place) o) (λ e. tell (acted code g f c e)) (λ e. offers_told (Kept below c) (acted code g f c e) (acted_kept below c code g f e t))
      go false = tt

  script_kept : (o : Option Frame) → top c.frames ≡ o → Offers (Kept below c) (script_of code input c o)
  script_kept None t = tt
  script_kept (Some f) t = op_kept f (function_at code f) (op_at code f) t

finish_kept : (below : ℕ) (code : Code) (s : State Picture) (r : Result Acted TrapWord × Picture) → IfOk r.0 (Kept below (control s)) → suc below ≤ length s.frames → suc below ≤ length (finish code s r).1.frames → KeepsFrames below s.frames (finish code s r).1.frames
finish_kept below code s (Ok a, m) h le less = h le less
finish_kept below code s (Err t, m) h le less = keeps_same below s.frames

step_keeps : (below : ℕ) (code : Code) (input : Text) (s : State Picture) → suc below ≤ length s.frames → suc below ≤ length (one_step code input s).1.frames → KeepsFrames below s.frames (one_step code input s).1.frames
step_keeps below code input s le less =
    finish_kept below code s (outcome (script code input (control s)) s.memory) (offered (Kept below (control s)) (script code input (control s)) s.memory (script_kept below code input (control s) (top s.frames) refl)) le less

-- ---- runs and turns

run_keeps_next : (below : ℕ) (code : Code) (input : Text) (s t : State Picture) (n : ℕ) (x : Step) (u : State Picture) → one_step code input s ≡ (x, u) → KeepsFrames below s.frames u.frames
    → (x ≡ step.Next → steps_from code input u n ≡ (run.Spent, t) → KeepsFrames below u.frames t.frames) → goes_on x u (steps_from code input u n) ≡ (run.Spent, t) → KeepsFrames below s.frames t.frames
run_keeps_next below code input s t n step.Next u e one again h = keeps_then below s.frames u.frames t.frames one (again refl h)
run_keeps_next below code input s t n (step.Ended v) u e one again h = let q : run.Ended v ≡ run.Spent = ap (λ (r : End × State Picture). r.0) h in absurd (cc)
run_keeps_next below code input s t n (step.Trap v site) u e one again h = let q : run.Trapped v site ≡ run.Spent = ap (λ (r : End × State Picture). r.0) h in absurd (cc)
run_keeps_next below code input s t n (step.Failed f site) u e one again h = absurd (no_check code input s f site u e)

pub run_keeps_frames : RunKeepsFrames
run_keeps_frames code input below s t zero le h stand = subst (λ (v : State Picture). KeepsFrames below s.frames v.frames) (ap (λ (r : End × State Picture). r.1) h) (keeps_same below s.frames)
run_keeps_frames code input below s t (suc n) le h stand =
    let x = (one_step code input s).0 in
    let u = (one_step code input s).1 in
    let there : suc below ≤ length u.frames = subst (λ (v : State Picture). suc below ≤ length v.frames) (one_on x u) (stand 0 (omega arith)) in
    run_keeps_next below code input s t n x u refl (step_keeps below code input s le there)
    (λ q g. run_keeps_frames code input below u t n there g
    (λ i lt. subst (λ (r : End × State Picture). suc below ≤ length r.1.frames) (steps_first code input s step.Next u (ap (λ (y : Step). (y, u)) q) (suc i)) (stand (suc i) (omega arith)))) h

stands_within : (code : Code) (l : Loop) (depth : ℕ) (frames : List Frame) → standing code l depth frames ≡ Within → depth ≤ length frames
stands_within code l depth frames h = go (length frames == depth) (nat_lt depth (length frames)) refl refl h
  where
    go : (a b : Bool) → (length frames == depth) ≡ a → nat_lt depth (length frames) ≡ b → (if a then frame_stands code l (top frames) else if b then Within else Outside) ≡ Within → depth ≤ length frames
    go true b e q w = omega (arith, eqb-true (length frames) depth e)
    go false true e q w = grind (arith, nat_tests)
    go false false e q w = absurd (cc)

-- the frames of a state that comes after so many steps and one more
last_or_less : (i k : ℕ) → i < suc k → (i < k) ⊎ (i ≡ k)
last_or_less i k lt = search arith

turn_keeps_frames : (code : Code) (input : Text) (l : Loop) (below : ℕ) (s t : State Picture) (n : ℕ) → suc below ≤ length s.frames → turn_from code input l (suc below) s n ≡ (Arrived, t) → (length t.frames ≡ suc below) × KeepsFrames below s.frames t.frames
turn_keeps_frames code input l below s t n le h =
    let first = arrived_is_first code input l (suc below) s t n h in
    let there = ((header_is_stop code l (suc below) t.frames).0 first.stands).0 in
    (there, run_keeps_frames code input below s t (suc first.between) le first.run (λ i lt. go first.between first.run there first.inside i (last_or_less i first.between lt)))
  where
    go : (k : ℕ) → steps_from code input s (suc k) ≡ (run.Spent, t) → length t.frames ≡ suc below → ((i : ℕ) → i < k → standing code l (suc below) (steps_from code input s (suc i)).1.frames ≡ Within)
        → (i : ℕ) → (i < k) ⊎ (i ≡ k) → suc below ≤ length (steps_from code input s (suc i)).1.frames
    go k e there inside i (inl lt) = stands_within code l (suc below) (steps_from code input s (suc i)).1.frames (inside i lt)
    go k e there inside i (inr same) = rw same (rw e (omega (arith, there)))

pub turns_keep_frames : TurnsKeepFrames
turns_keep_frames code input l below zero s t n len h =
    let same : s ≡ t = ap (λ (r : TurnEnd × State Picture). r.1) h in
    (ap (λ (v : State Picture). length v.frames) (sym same) ∙ len, subst (λ (v : State Picture). KeepsFrames below s.frames v.frames) same (keeps_same below s.frames))
turns_keep_frames code input l below (suc c) s t n len h =
    let q = (turn_from code input l (suc below) s n).1 in
    let b = begins code input l (suc below) c n s t h in
    let one = turn_keeps_frames code input l below s q n (omega (arith, len)) b.0 in
    let rest = turns_keep_frames code input l below c q t n one.0 b.1 in
    (rest.0, keeps_then below s.frames q.frames t.frames one.1 rest.1)
