-- A step, from its parts.
use Rattle.std.proofs.Common.{◌≡◌, ℕ, zero, suc, add-one, arith, ◌+◌, ◌<◌, ◌≤◌, List, Option, Some, None, Result, Ok, Err, true, false, Bool, slice_get, not, refl, sym, ◌∙◌, ap, subst, length, OnErr}
use Rattle.std.specs.Prelude.{nat_lt, ◌||◌}
use Rattle.std.proofs.lemmas.Bool.{ltb-true}
use Rattle.ir_code.specs.declared.code.BlockCode.{BlockCode}
use Rattle.mem_image.specs.declared.fault.Trap.TheVariants.{Unreachable}
use Rattle.int_num.specs.Integer.{Integer}
use Rattle.pv_base.specs.Outside.{Text}
use Rattle.pv_base.specs.declared.place.Site.{Site}
use Rattle.ir_code.specs.declared.op.Op.{Op}
use Rattle.ir_code.specs.declared.op.Op.TheVariants as op
use Rattle.ir_code.specs.declared.code.FunctionCode.{FunctionCode}
use Rattle.ir_code.specs.declared.code.Code.{Code}
use Rattle.mem_image.specs.declared.fault.Trap.{Trap as TrapWord}
use Rattle.mem_image.specs.declared.fault.Fault.{Fault}
use Rattle.mem_image.specs.declared.fault.Fault.TheVariants.{Trap, Check, Memory}
use Rattle.mem_image.specs.Picture.{Picture}
use Rattle.mem_image.specs.Calls.{Call, Reply, does, Fits, ImageAnswers}
use Rattle.mem_image.specs.declared.fault.CheckFault.{CheckFault}
use Rattle.seq_effects.specs.declared.state.Frame.{Frame}
use Rattle.seq_machine.specs.declared.state.State.{State}
use Rattle.seq_effects.specs.declared.state.Effect.{Effect}
use Rattle.seq_effects.specs.declared.state.Effect.TheVariants as effect
use Rattle.seq_effects.specs.Script.{Script, Stops, Follows, Tells, tell, chain, sent, outcome}
use Rattle.seq_effects.specs.Values.{Sets}
use Rattle.seq_machine.specs.Acts.{Control, Acted, acted, acted_of, top, function_at, op_at, block_at}
use Rattle.seq_machine.specs.Frames.{HasMore, EffectOf}
use Rattle.seq_machine.specs.Meaning.{Here, meaning, is_inner}
use Rattle.seq_effects.specs.Effects.{EffectFor}
use Rattle.seq_machine.specs.Step.{here, script_in, site_at, site_of, script, has_next, finish, step, stands, shown, settled, counted, StepsTo, IsAhead, control, steps_from}
use Rattle.seq_machine.specs.declared.state.Step.TheVariants.{Next, Ended, Failed, Trap as Trapped}
use Rattle.seq_machine.specs.declared.state.End.TheVariants.{Ended as RunEnded, Trapped as RunTrapped}
use Rattle.seq_effects.proofs.Follow.{follows_chain, follows_cut, follows_outcome, no_check}

sets_of : (code : Code) (g : FunctionCode) (f : Frame) (e : Effect) → function_at code f ≡ Some g → HasMore code f → Sets g.registers e → EffectOf code f e
sets_of code g f effect.Next is more h = more
sets_of code g f (effect.Give to v) is more h = (more, rw is h)
sets_of code g f (effect.Keep to name) is more h = elim h [ ]
sets_of code g f (effect.Edge e) is more h = tt
sets_of code g f (effect.Enter k registers) is more h = elim h [ ]
sets_of code g f (effect.Back v) is more h = elim h [ ]
sets_of code g f (effect.Exit n) is more h = tt
sets_of code g f (effect.Print text to v) is more h = (more, rw is h)
sets_of code g f (effect.Take place to v) is more h = (more, rw is h)

-- what the instruction at which the frame stands may do leaves frames of the code
pub effect_of : (code : Code) (g : FunctionCode) (f : Frame) (o : Op) (e : Effect) → function_at code f ≡ Some g → op_at code f ≡ Some o → (is_inner o ≡ true → HasMore code f) → EffectFor code g o e → EffectOf code f e
effect_of code g f (op.Call to k arguments) (effect.Enter entered registers) is at more h = (record { more = more refl; calls = rw (at, is) (sym h.0, h.1.result) }, (to, rw is h.1))
effect_of code g f (op.Call to k arguments) _ is at more h = elim h [ ]
effect_of code g f (op.CallPointer to p result parameters arguments) (effect.Enter entered registers) is at more h = (record { more = more refl; calls = rw (at, is) (h.0, h.1.result) }, (to, rw is h.1))
effect_of code g f (op.CallPointer to p result parameters arguments) _ is at more h = elim h [ ]
effect_of code g f (op.Return value) (effect.Back v) is at more h = rw is h
effect_of code g f (op.Return value) _ is at more h = elim h [ ]
effect_of code g f (op.Jump edge) (effect.Edge e) is at more h = tt
effect_of code g f (op.Jump edge) _ is at more h = elim h [ ]
effect_of code g f (op.Branch c a b) (effect.Edge e) is at more h = tt
effect_of code g f (op.Branch c a b) _ is at more h = elim h [ ]
effect_of code g f (op.Switch v d cases) (effect.Edge e) is at more h = tt
effect_of code g f (op.Switch v d cases) _ is at more h = elim h [ ]
effect_of code g f (op.Alloca to size) (effect.Keep r name) is at more h = (more refl, rw is h)
effect_of code g f (op.Alloca to size) (effect.Give r v) is at more h = (more refl, rw is h)
effect_of code g f (op.Alloca to size) _ is at more h = elim h [ ]
effect_of code g f op.Unreachable e is at more h = elim h [ ]
effect_of code g f op.Stuck e is at more h = elim h [ ]
effect_of code g f _ e is at more h = sets_of code g f e is (more refl) h

told_follows : {A M : Type 0} (image : M → Picture) (R : M → Call → Result Reply Fault → M → Type 0) (x : Result A TrapWord) (answer : Result A Fault) (m : M) → Tells x answer → Follows image R (tell x) m answer m
told_follows image R (Ok a) answer m h = (h, refl)
told_follows image R (Err t) answer m h = (h, refl)

abbrev pub here_of : Code → FunctionCode → Frame → Site → Text → ℕ → Here
here_of code g f site input place = record { code = code; function = g; frame = f; site = site; input = input; place = place }

pub here_same : (code : Code) (g : FunctionCode) (f f' : Frame) (site : Site) (input : Text) (place : ℕ) → f ≡ f' → site ≡ site_at code f' → here_of code g f site input place ≡ here code g f' input place
here_same code g f f' site input place e q = rw (e, q) refl

module _ {M : Type 0} (image : M → Picture) (R : M → Call → Result Reply Fault → M → Type 0) (code : Code) (g : FunctionCode) (f : Frame) (c : Control) (h h' : Here) (o : Op) (m n : M) (same : h ≡ h') where
  pub performed : (e : Effect) (answer : Result Acted Fault) → Follows image R (meaning h o) m (Ok e) n → Tells (acted code g f c e) answer → Follows image R (chain (meaning h' o) (λ e. tell (acted code g f c e))) m answer n
  performed e answer follows told =
      let there : Follows image R (meaning h' o) m (Ok e) n = subst (λ x. Follows image R (meaning x o) m (Ok e) n) same follows in
      follows_chain image R (meaning h' o) (λ e. tell (acted code g f c e)) m n n e answer there (told_follows image R (acted code g f c e) answer n told)

  pub cut_off : (fault : Fault) → Follows image R (meaning h o) m (Err fault) n → Follows image R (chain (meaning h' o) (λ e. tell (acted code g f c e))) m (Err fault) n
  cut_off fault follows =
      let there : Follows image R (meaning h' o) m (Err fault) n = subst (λ x. Follows image R (meaning x o) m (Err fault) n) same follows in
      follows_cut image R (meaning h' o) (λ e. tell (acted code g f c e)) m n fault there

-- the tree of the step, where the frame stands at an instruction
in_is : (code : Code) (input : Text) (c : Control) (f : Frame) (g : FunctionCode) (o : Op) (og : Option FunctionCode) (oo : Option Op) → og ≡ Some g → oo ≡ Some o → has_next code f o ≡ true → script_in code input c f og oo ≡ chain (meaning (here code g f input c.input_place) o) (λ e. tell (acted code g f c e))
in_is code input c f g o og oo is at next = rw (is, at, next) refl

in_stops : (code : Code) (input : Text) (c : Control) (f : Frame) (g : FunctionCode) (o : Op) (og : Option FunctionCode) (oo : Option Op) → og ≡ Some g → oo ≡ Some o → has_next code f o ≡ false → script_in code input c f og oo ≡ Stops Unreachable
in_stops code input c f g o og oo is at next = rw (is, at, next) refl

pub script_is : (code : Code) (input : Text) (c : Control) (f : Frame) (g : FunctionCode) (o : Op) → top c.frames ≡ Some f → function_at code f ≡ Some g → op_at code f ≡ Some o → has_next code f o ≡ true → script code input c ≡ chain (meaning (here code g f input c.input_place) o) (λ e. tell (acted code g f c e))
script_is code input c f g o t is at next = rw t (in_is code input c f g o (function_at code f) (op_at code f) is at next)

pub script_stops : (code : Code) (input : Text) (c : Control) (f : Frame) (g : FunctionCode) (o : Op) → top c.frames ≡ Some f → function_at code f ≡ Some g → op_at code f ≡ Some o → has_next code f o ≡ false → script code input c ≡ Stops Unreachable
script_stops code input c f g o t is at next = rw t (in_stops code input c f g o (function_at code f) (op_at code f) is at next)

-- where a frame stands, by parts
pub block_is : (code : Code) (f : Frame) (g : FunctionCode) (b : BlockCode) → slice_get code.functions f.function ≡ Some g → slice_get g.blocks f.block ≡ Some b → block_at code f ≡ Some b
block_is code f g b is in_it = rw is in_it

pub op_is : (code : Code) (f : Frame) (g : FunctionCode) (b : BlockCode) (o : Op) → slice_get code.functions f.function ≡ Some g → slice_get g.blocks f.block ≡ Some b → slice_get b.ops f.place ≡ Some o → op_at code f ≡ Some o
op_is code f g b o is in_it at = rw (is, in_it) at

pub next_is : (code : Code) (f : Frame) (o : Op) (b : BlockCode) (r v : Bool) → block_at code f ≡ Some b → r ≡ (not (is_inner o) || nat_lt (f.place + 1) (length b.ops)) → r ≡ v → has_next code f o ≡ v
next_is code f o b r v is e q = rw is (sym e ∙ q)

pub more_of : (code : Code) (f : Frame) (o : Op) (b : BlockCode) (r : Bool) → block_at code f ≡ Some b → r ≡ (not (is_inner o) || nat_lt (f.place + 1) (length b.ops)) → r ≡ true → is_inner o ≡ true → HasMore code f
more_of code f o b r is e q inner = rw is (ltb-true (f.place + 1) (length b.ops) (rw inner at (sym e ∙ q)))

-- ---- a whole step

shown_settled : {M : Type 0} (s : State M) (site : Site) (done : Result (Option Integer) Fault) → sent (acted_of s.frames s.input_place s.output) done ≡ shown s (settled site done)
shown_settled s site (Ok None) = refl
shown_settled s site (Ok (Some n)) = refl
shown_settled s site (Err (Trap t)) = refl
shown_settled s site (Err (Check f)) = refl
shown_settled s site (Err Memory) = refl

pub step_follows : {M : Type 0} (image : M → Picture) (R : M → Call → Result Reply Fault → M → Type 0) (tree : Script Acted) (s : State M) (site : Site) (done : Result (Option Integer) Fault) (m n : M) → Follows image R tree m (sent (acted_of s.frames s.input_place s.output) done) n → Follows image R tree m (shown s (settled site done)) n
step_follows image R tree s site done m n h = rw (← shown_settled s site done) h

-- the state after a step, by its parts
abbrev pub after : {M : Type 0} → (M → Picture) → State M → List Frame → ℕ → Text → Result (Option Integer) Fault → M → State Picture
after image s frames place output done n = record { frames = frames; memory = image n; input_place = place; output = output; steps = counted done s.steps }

pub step_steps : {M : Type 0} (image : M → Picture) (R : M → Call → Result Reply Fault → M → Type 0) (sound : (m n : M) (call : Call) (answer : Result Reply Fault) → R m call answer n → Fits (does (image m) call) (image m) answer (image n)) (code : Code) (input : Text) (s : State M) (frames : List Frame) (place : ℕ) (output : Text) (done : Result (Option Integer) Fault) (n : M)
    → Follows image R (script code input (control s)) s.memory (sent (acted_of frames place output) done) n
    → OnErr done ((frames ≡ s.frames) × (place ≡ s.input_place) × (output ≡ s.output))
    → OnErr done (image n ≡ image s.memory)
    → StepsTo code input (stands image s) (settled (site_of code (top s.frames)) done) (after image s frames place output done n)
step_steps image R sound code input s frames place output (Ok None) n h same i =
    ap (finish code (stands image s)) {y = (Ok (acted_of frames place output None), image n)} (follows_outcome {A = Acted} image R sound (script code input (control s)) s.memory (Ok (acted_of frames place output None)) n h)
step_steps image R sound code input s frames place output (Ok (Some v)) n h same i =
    ap (finish code (stands image s)) {y = (Ok (acted_of frames place output (Some v)), image n)} (follows_outcome {A = Acted} image R sound (script code input (control s)) s.memory (Ok (acted_of frames place output (Some v))) n h)
step_steps image R sound code input s frames place output (Err (Trap u)) n h same i =
    rw (same.0, same.1, same.2, i) (ap (finish code (stands image s)) {y = (Err u, image n)} (follows_outcome {A = Acted} image R sound (script code input (control s)) s.memory (Err (Trap u)) n h))
step_steps image R sound code input s frames place output (Err (Check u)) n h same i = (rw (same.0, same.1, same.2, i) refl, refl)
step_steps image R sound code input s frames place output (Err Memory) n h same i = rw (same.0, same.1, same.2) refl

-- want of memory leaves what the state stands for
pub step_unmoved : {M : Type 0} (image : M → Picture) (s : State M) (site : Site) (frames : List Frame) (place : ℕ) (output : Text) (done : Result (Option Integer) Fault) (n : M) → OnErr done ((frames ≡ s.frames) × (place ≡ s.input_place) × (output ≡ s.output)) → OnErr done (image n ≡ image s.memory) → OnErr (settled site done) (after image s frames place output done n ≡ stands image s)
step_unmoved image s site frames place output (Ok None) n same i = tt
step_unmoved image s site frames place output (Ok (Some v)) n same i = tt
step_unmoved image s site frames place output (Err (Trap t)) n same i = tt
step_unmoved image s site frames place output (Err (Check f)) n same i = tt
step_unmoved image s site frames place output (Err Memory) n same i = rw (same.0, same.1, same.2, i) refl

pub site_is : (code : Code) (frames : List Frame) (f : Frame) (g : FunctionCode) (b : BlockCode) → top frames ≡ Some f → slice_get code.functions f.function ≡ Some g → slice_get g.blocks f.block ≡ Some b → record { function = f.function; place = b.first + f.place } ≡ site_of code (top frames)
site_is code frames f g b t is in_it = rw (t, is, in_it) refl

pub run_trapped : (code : Code) (input : Text) (s s' : State Picture) (n : ℕ) (t : TrapWord) (site : Site) → 0 < n → step code input s ≡ (Trapped t site, s') → steps_from code input s n ≡ (RunTrapped t site, s')
run_trapped code input s s' zero t site lt e = absurd (omega arith)
run_trapped code input s s' (suc n) t site lt e = rw (e, steps_from) refl

pub run_ended : (code : Code) (input : Text) (s s' : State Picture) (n : ℕ) (v : Integer) → 0 < n → step code input s ≡ (Ended v, s') → steps_from code input s n ≡ (RunEnded v, s')
run_ended code input s s' zero v lt e = absurd (omega arith)
run_ended code input s s' (suc n) v lt e = rw (e, steps_from) refl

pub run_next : (code : Code) (input : Text) (s s' : State Picture) (n m : ℕ) → n ≡ m + 1 → step code input s ≡ (Next, s') → steps_from code input s n ≡ steps_from code input s' m
run_next code input s s' n m same e = rw (same, add-one, e, steps_from) refl

pub next_counts : (code : Code) (input : Text) (s t : State Picture) → step code input s ≡ (Next, t) → t.steps ≡ s.steps + 1
next_counts code input s t e = go (outcome (script code input (control s)) s.memory) e
  where
    go : (x : Result Acted TrapWord × Picture) → finish code s x ≡ (Next, t) → t.steps ≡ s.steps + 1
    go (Ok a, m) e = sym (ap (λ p. p.1.steps) e)
    go (Err u, m) e = sym (ap (λ p. p.1.steps) e)

-- a run goes on where its first steps led
pub led_on : (code : Code) (input : Text) (first s s' : State Picture) (n : ℕ) → step code input s ≡ (Next, s') → ((k : ℕ) → steps_from code input first (n + k) ≡ steps_from code input s k) → (k : ℕ) → steps_from code input first (n + 1 + k) ≡ steps_from code input s' k
led_on code input first s s' n e led k =
    let sum : n + 1 + k ≡ n + (k + 1) = omega arith in
    ap (steps_from code input first) sum ∙ led (k + 1) ∙ run_next code input s s' (k + 1) k refl e

-- a fault leaves the state after the steps that led there
pub ahead_of : {A E : Type 0} (r : Result A E) (code : Code) (input : Text) (first s s' : State Picture) (i n : ℕ) → i ≤ n → ((k : ℕ) → steps_from code input first (i + k) ≡ steps_from code input s k) → s' ≡ s → OnErr r (IsAhead code input first n s')
ahead_of (Ok a) code input first s s' i n le led same = tt
ahead_of (Err e) code input first s s' i n le led same =
    let sum : i ≡ i + 0 = omega arith in
    rw same (record { count = i; within = le; reached = ap (steps_from code input first) sum ∙ led 0 })

-- an image fails no check
pub failed_never : (code : Code) (input : Text) (s s' : State Picture) (f : CheckFault) (site : Site) → Follows (λ m. m) (λ before call answer after. ImageAnswers call answer × Fits (does before call) before answer after) (script code input (control s)) s.memory (shown s' (Ok (Failed f site))) s'.memory → ⊥
failed_never code input s s' f site h = no_check {A = Acted} (script code input (control s)) s.memory (Err (Check f)) s'.memory h
