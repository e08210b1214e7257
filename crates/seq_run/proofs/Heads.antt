-- Runs to a header, a step at a time.
use Rattle.std.proofs.Common.{◌≡◌, ℕ, zero, suc, ◌+◌, ◌<◌, ◌==◌, Bool, true, false, List, Option, Some, None, Result, Ok, Err, slice_get, refl, sym, ap, ◌∙◌, arith, add-one, eqb-true, eq-eqb}
use Rattle.std.specs.Prelude.{position, if◌then◌else◌}
use Rattle.int_num.specs.Integer.{Integer}
use Rattle.pv_base.specs.Outside.{Text}
use Rattle.pv_base.specs.declared.place.Site.{Site}
use Rattle.ir_code.specs.declared.code.BlockCode.{BlockCode}
use Rattle.ir_code.specs.declared.code.FunctionCode.{FunctionCode}
use Rattle.ir_code.specs.declared.code.Code.{Code}
use Rattle.mem_image.specs.declared.fault.Trap.{Trap as TrapWord}
use Rattle.mem_image.specs.Picture.{Picture}
use Rattle.seq_effects.specs.declared.state.Frame.{Frame}
use Rattle.seq_machine.specs.declared.state.State.{State}
use Rattle.seq_machine.specs.declared.state.Header.{Header}
use Rattle.seq_machine.specs.declared.state.Step.{Step}
use Rattle.seq_machine.specs.declared.state.Step.TheVariants as step
use Rattle.seq_machine.specs.declared.state.Stop.TheVariants.{AtHeader, Ended, Trapped, Spent}
use Rattle.seq_machine.specs.Acts.{top}
use Rattle.seq_machine.specs.Step.{step as one_step, finish, script, control}
use Rattle.seq_effects.specs.Script.{outcome}
use Rattle.seq_run.specs.Headers.{is_header, header_of, to_header}

-- ---- where the top frame stands

header_is : (code : Code) (headers : List Header) (frames : List Frame) (f : Frame) (g : FunctionCode) (b : BlockCode) (v : Bool) → top frames ≡ Some f → slice_get code.functions f.function ≡ Some g → slice_get g.blocks f.block ≡ Some b
    → (f.place == b.phis) ≡ v → header_of code headers frames ≡ (if v then position (is_header f) headers else None)
header_is code headers frames f g b v t is in_it e = rw (t, is, in_it, e) refl

pub header_there : (code : Code) (headers : List Header) (frames : List Frame) (f : Frame) (g : FunctionCode) (b : BlockCode) (r : Option ℕ) → top frames ≡ Some f → slice_get code.functions f.function ≡ Some g → slice_get g.blocks f.block ≡ Some b
    → f.place ≡ b.phis → r ≡ position (is_header f) headers → r ≡ header_of code headers frames
header_there code headers frames f g b r t is in_it same e = e ∙ sym (header_is code headers frames f g b true t is in_it (eq-eqb f.place b.phis same))

different : (a b : ℕ) (v : Bool) → (a == b) ≡ v → (a ≡ b → ⊥) → v ≡ false
different a b true e no_ = absurd (no_ (eqb-true a b e))
different a b false e no_ = refl

pub header_not : (code : Code) (headers : List Header) (frames : List Frame) (f : Frame) (g : FunctionCode) (b : BlockCode) → top frames ≡ Some f → slice_get code.functions f.function ≡ Some g → slice_get g.blocks f.block ≡ Some b
    → (f.place ≡ b.phis → ⊥) → None ≡ header_of code headers frames
header_not code headers frames f g b t is in_it no_ = sym (header_is code headers frames f g b false t is in_it (let e = different f.place b.phis (f.place == b.phis) refl no_ in e))

-- ---- one step

counted : (code : Code) (s : State Picture) (r : Result _ TrapWord × Picture) → (finish code s r).1.steps ≡ s.steps + 1
counted code s (Ok a, m) = refl
counted code s (Err t, m) = refl

-- each step is counted
pub step_counts : (code : Code) (input : Text) (s : State Picture) (answer : Step) (s' : State Picture) → one_step code input s ≡ (answer, s') → s'.steps ≡ s.steps + 1
step_counts code input s answer s' e = ap (λ (r : Step × State Picture). r.1.steps) (sym e) ∙ counted code s (outcome (script code input (control s)) s.memory)

pub to_ended : (code : Code) (input : Text) (headers : List Header) (s s' : State Picture) (n : ℕ) (v : Integer) → 0 < n → one_step code input s ≡ (step.Ended v, s') → to_header code input headers s n ≡ (Ended v, s')
to_ended code input headers s s' zero v lt e = absurd (omega arith)
to_ended code input headers s s' (suc n) v lt e = rw (e, to_header) refl

pub to_trapped : (code : Code) (input : Text) (headers : List Header) (s s' : State Picture) (n : ℕ) (t : TrapWord) (site : Site) → 0 < n → one_step code input s ≡ (step.Trap t site, s') → to_header code input headers s n ≡ (Trapped t site, s')
to_trapped code input headers s s' zero t site lt e = absurd (omega arith)
to_trapped code input headers s s' (suc n) t site lt e = rw (e, to_header) refl

pub to_arrived : (code : Code) (input : Text) (headers : List Header) (s s' : State Picture) (n k : ℕ) → 0 < n → one_step code input s ≡ (step.Next, s') → header_of code headers s'.frames ≡ Some k → to_header code input headers s n ≡ (AtHeader k, s')
to_arrived code input headers s s' zero k lt e h = absurd (omega arith)
to_arrived code input headers s s' (suc n) k lt e h = rw (e, to_header) (rw h refl)

pub to_next : (code : Code) (input : Text) (headers : List Header) (s s' : State Picture) (n m : ℕ) → n ≡ m + 1 → one_step code input s ≡ (step.Next, s') → header_of code headers s'.frames ≡ None → to_header code input headers s n ≡ to_header code input headers s' m
to_next code input headers s s' n m same e h = rw (same, add-one, e, to_header) (rw h refl)

pub to_spent : (code : Code) (input : Text) (headers : List Header) (s : State Picture) (n : ℕ) → n ≡ 0 → to_header code input headers s n ≡ (Spent, s)
to_spent code input headers s n e = rw e refl
