-- A step, and a run, of a typed code.
use Rattle.std.proofs.Common.{◌≡◌, ℕ, zero, suc, ◌-◌, ◌+◌, ◌<◌, List, length, slice_get, Option, Some, None, Result, Ok, Err, Bool, true, false, refl, sym, ap, subst, ◌∙◌, ◌⊎◌, inl, inr, ltb, arith, if◌then◌else◌}
use Rattle.std.specs.Prelude.{not, nat_lt, ◌||◌}
use Rattle.std.proofs.lemmas.Bool.Decides.{nat_tests}
use Rattle.int_num.specs.Integer.{Integer}
use Rattle.pv_base.specs.Outside.{Text}
use Rattle.pv_base.specs.declared.place.Site.{Site}
use Rattle.ir_code.specs.declared.op.Op.{Op}
use Rattle.ir_code.specs.declared.op.Op.TheVariants as op
use Rattle.ir_code.specs.declared.code.FunctionCode.{FunctionCode}
use Rattle.ir_code.specs.declared.code.Code.{Code}
use Rattle.mem_image.specs.declared.fault.Trap.{Trap as TrapWord}
use Rattle.mem_image.specs.declared.fault.Trap.TheVariants.{Unreachable}
use Rattle.mem_image.specs.Picture.{Picture}
use Rattle.seq_effects.specs.declared.state.Frame.{Frame}
use Rattle.seq_effects.specs.declared.state.Effect.{Effect}
use Rattle.seq_effects.specs.Numbers.{calculated, converted, frozen, compared, selected}
use Rattle.seq_effects.specs.Flow.{branched, switched, called, called_through}
use Rattle.seq_effects.specs.Script.{Script, Stops, tell, chain, outcome}
use Rattle.seq_machine.specs.declared.state.State.{State}
use Rattle.seq_machine.specs.declared.state.Step.{Step}
use Rattle.seq_machine.specs.declared.state.Step.TheVariants.{Next, Ended, Trap as Trapped, Failed}
use Rattle.seq_machine.specs.declared.state.End.{End}
use Rattle.seq_machine.specs.declared.state.End.TheVariants as end
use Rattle.seq_machine.specs.Acts.{Control, Acted, acted, top, function_at, op_at, block_at, blocks_of, ops_of}
use Rattle.seq_machine.specs.Meaning.{meaning, is_inner}
use Rattle.seq_machine.specs.Step.{here, has_next, script_in, script_of, script, control, finish, step_word, site_of, site_at, step, goes_on, steps_from}
use Rattle.unreachable_laws.specs.Typing.{OpTyped, PlaceTyped, CodeTyped}
use Rattle.unreachable_laws.specs.States.{FrameTyped, FramesTyped}
use Rattle.unreachable_laws.specs.Trees.{IsOther, Sound, Safe, EffectTyped}
use Rattle.unreachable_laws.specs.Laws.{StandsUnreachable, StepKeepsTyped, TypedRunsStop}
use Rattle.unreachable_laws.proofs.Trees.{tell_safe, chain_safe, if_safe}
use Rattle.unreachable_laws.proofs.Families.{calculated_sound, converted_sound, frozen_sound, compared_sound, selected_sound, load_safe, store_safe, alloca_safe, address_safe}
use Rattle.unreachable_laws.proofs.Flow.{branched_sound, switched_sound, called_sound, through_sound, returned_safe}
use Rattle.unreachable_laws.proofs.Outside.{external_safe}
use Rattle.unreachable_laws.proofs.Memory.{outcome_sound}
use Rattle.unreachable_laws.proofs.Acting.{item_at, acted_sound}

-- ---- an instruction

-- over a typed code, and a frame of it
module _ (code : Code) (all : CodeTyped code) (f : Frame) (x : FrameTyped code f) (input : Text) (place : ℕ) where
  -- what its instruction gives is typed, but for the instruction `unreachable`
  instruction_safe : (o : Op) → OpTyped code x.function o → (o ≡ op.Unreachable → ⊥) → Safe (EffectTyped code x.function o) (meaning (here code x.function f input place) o)
  unfolding OpTyped meaning
  instruction_safe (op.Binary to what flags a b) h not = tell_safe (EffectTyped code x.function (op.Binary to what flags a b)) (calculated x.function.registers f to what flags a b) (calculated_sound code x.function (op.Binary to what flags a b) refl f x.registers to h.0 what flags a b h.1 h.2 h.3)
  instruction_safe (op.Cast to what flags a width) h not = tell_safe (EffectTyped code x.function (op.Cast to what flags a width)) (converted x.function.registers f to what flags a width) (converted_sound code x.function (op.Cast to what flags a width) refl f x.registers to h.0 what flags a width h.1 h.2 h.3)
  instruction_safe (op.Freeze to a) h not = tell_safe (EffectTyped code x.function (op.Freeze to a)) (frozen x.function.registers f to a) (frozen_sound code x.function (op.Freeze to a) refl f x.registers to h.0 a h.1 h.2)
  instruction_safe (op.Compare to p a b) h not = tell_safe (EffectTyped code x.function (op.Compare to p a b)) (compared x.function.registers f to p a b) (compared_sound code x.function (op.Compare to p a b) refl f x.registers to h.0 p a b h.1 h.2 h.3)
  instruction_safe (op.Select to c a b) h not = tell_safe (EffectTyped code x.function (op.Select to c a b)) (selected x.function.registers f to c a b) (selected_sound code x.function (op.Select to c a b) refl f x.registers to h.0 c a b h.1 h.2 h.3 h.4)
  instruction_safe op.Phi h not = elim h [ ]
  instruction_safe (op.Alloca to size) h not = alloca_safe code x.function (op.Alloca to size) refl f x.registers (site_at code f) to size h
  instruction_safe (op.Load to t p) h not = load_safe code x.function (op.Load to t p) refl f x.registers (site_at code f) to t p h.0 h.1 h.2
  instruction_safe (op.Store t v p) h not = store_safe code x.function (op.Store t v p) refl f x.registers (site_at code f) t v p h.0 h.1 h.2
  instruction_safe (op.Address to inbounds base is) h not = address_safe code x.function (op.Address to inbounds base is) refl f x.registers to inbounds base is h.0 h.1 h.2
  instruction_safe (op.Call to k xs) h not = tell_safe (EffectTyped code x.function (op.Call to k xs)) (called code x.function.registers f to k xs) (called_sound code all x.function (op.Call to k xs) f x.registers refl to k xs refl h)
  instruction_safe (op.CallPointer to p result parameters xs) h not = tell_safe (EffectTyped code x.function (op.CallPointer to p result parameters xs)) (called_through code x.function.registers f to p result parameters xs) (through_sound code all x.function (op.CallPointer to p result parameters xs) f x.registers refl to p result parameters xs refl h.0 h.1 h.2)
  instruction_safe (op.CallExternal to e xs) h not = external_safe code x.function to e xs f (site_at code f) input place x.registers h
  instruction_safe (op.Return v) h not = returned_safe code all x.function (op.Return v) f x.registers v h
  instruction_safe (op.Jump e) h not = h
  instruction_safe (op.Branch c a b) h not = tell_safe (EffectTyped code x.function (op.Branch c a b)) (branched f c a b) (branched_sound code all x.function (op.Branch c a b) f x.registers c a b h.0 h.1 h.2)
  instruction_safe (op.Switch v d cases) h not = tell_safe (EffectTyped code x.function (op.Switch v d cases)) (switched f v d cases) (switched_sound code all x.function (op.Switch v d cases) f x.registers v d cases h.0 h.1 h.2)
  instruction_safe op.Unreachable h not = absurd (not refl)
  instruction_safe op.Stuck h not = elim h [ ]

-- ---- a step

is_unreachable : (o : Op) → (o ≡ op.Unreachable) ⊎ (o ≡ op.Unreachable → ⊥)
is_unreachable op.Unreachable = inl refl
is_unreachable (op.Binary to what flags a b) = inr (λ e. absurd cc)
is_unreachable (op.Cast to what flags a width) = inr (λ e. absurd cc)
is_unreachable (op.Freeze to a) = inr (λ e. absurd cc)
is_unreachable (op.Compare to p a b) = inr (λ e. absurd cc)
is_unreachable (op.Select to c a b) = inr (λ e. absurd cc)
is_unreachable op.Phi = inr (λ e. absurd cc)
is_unreachable (op.Alloca to size) = inr (λ e. absurd cc)
is_unreachable (op.Load to t p) = inr (λ e. absurd cc)
is_unreachable (op.Store t v p) = inr (λ e. absurd cc)
is_unreachable (op.Address to inbounds base is) = inr (λ e. absurd cc)
is_unreachable (op.Call to k xs) = inr (λ e. absurd cc)
is_unreachable (op.CallPointer to p result parameters xs) = inr (λ e. absurd cc)
is_unreachable (op.CallExternal to e xs) = inr (λ e. absurd cc)
is_unreachable (op.Return v) = inr (λ e. absurd cc)
is_unreachable (op.Jump e) = inr (λ e. absurd cc)
is_unreachable (op.Branch c a b) = inr (λ e. absurd cc)
is_unreachable (op.Switch v d cases) = inr (λ e. absurd cc)
is_unreachable op.Stuck = inr (λ e. absurd cc)

abbrev Left : Code → Acted → Type 0
Left code a = FramesTyped code a.control.frames

-- the step's tree is safe, or the top frame stands at an instruction `unreachable`
module _ (code : Code) (all : CodeTyped code) (input : Text) (c : Control) (h : FramesTyped code c.frames) where
  next_if : (inner : Bool) (place n : ℕ) → (inner ≡ true → place + 1 < n) → (not inner || nat_lt (place + 1) n) ≡ true
  next_if false place n more = refl
  next_if true place n more = go (ltb (place + 1) n) refl (more refl)
    where
      go : (b : Bool) → ltb (place + 1) n ≡ b → place + 1 < n → ltb (place + 1) n ≡ true
      go true e lt = e
      go false e lt = grind (arith, nat_tests, e, lt)

  -- the top frame stands at an instruction `unreachable`, and there the tree stops
  record Stopped : Type 0 where
    frame : Frame
    is_top : top c.frames ≡ Some frame
    typed : FrameTyped code frame
    is : op_at code frame ≡ Some op.Unreachable
    stops : script code input c ≡ Stops Unreachable

  stops_in : (f : Frame) (g : FunctionCode) → script_in code input c f (Some g) (Some op.Unreachable) ≡ Stops Unreachable
  unfolding meaning
  stops_in f g = refl

  at_safe : (f : Frame) (is : top c.frames ≡ Some f) → Stopped ⊎ Safe (Left code) (script code input c)
  at_safe f is = elim (is_unreachable x.op) [
    | inl e ↦ inl (record { frame = f; is_top = is; typed = x; is = op_is ∙ ap Some e; stops = script_is ∙ ap (λ o. script_in code input c f (Some x.function) (Some o)) e ∙ stops_in f x.function })
    | inr not ↦ inr (subst (Safe (Left code)) (sym script_is)
        (if_safe (Left code) (has_next code f x.op) _ _ next
        (chain_safe (EffectTyped code x.function x.op) (Left code) (meaning (here code x.function f input c.input_place) x.op) _ (instruction_safe code all f x input c.input_place x.op p.typed not)
        (λ e q. tell_safe (Left code) (acted code x.function f c e) (acted_sound code c h f is x p.more e q)))))
  ]
    where
      x : FrameTyped code f
      x = h.each (length c.frames - 1) f is

      p : PlaceTyped code x.function x.block f.place x.op
      p = (all f.function x.function x.function_is).places f.block f.place x.block x.op x.block_is x.op_is x.behind

      block_is : block_at code f ≡ Some x.block
      block_is = ap (λ o. slice_get (blocks_of o) f.block) x.function_is ∙ x.block_is

      op_is : op_at code f ≡ Some x.op
      op_is = ap (λ o. slice_get (ops_of o) f.place) block_is ∙ x.op_is

      script_is : script code input c ≡ script_in code input c f (Some x.function) (Some x.op)
      script_is = ap (script_of code input c) is ∙ ap (λ o. script_in code input c f o (op_at code f)) x.function_is ∙ ap (script_in code input c f (Some x.function)) op_is

      next : has_next code f x.op ≡ true
      next = ap (λ o. not (is_inner x.op) || nat_lt (f.place + 1) (length (ops_of o))) block_is ∙ next_if (is_inner x.op) f.place (length x.block.ops) p.more

  script_safe : Stopped ⊎ Safe (Left code) (script code input c)
  script_safe = let t = item_at c.frames (length c.frames - 1) (last (length c.frames) h.filled) in at_safe t.0 t.1
    where
      last : (n : ℕ) → 0 < n → n - 1 < n
      last n lt = omega arith

-- ---- steps

left_frames : (code : Code) (s : State Picture) (o : Result Acted TrapWord × Picture) → FramesTyped code s.frames → Sound (Left code) o.0 → FramesTyped code (finish code s o).1.frames
left_frames code s (Ok a, m) h q = q
left_frames code s (Err t, m) h q = h

pub step_keeps : StepKeepsTyped
step_keeps code input s all h = elim (script_safe code all input (control s) h) [
  | inl st ↦ subst (λ t. FramesTyped code (finish code s (outcome t s.memory)).1.frames) (sym st.stops) h
  | inr safe ↦ left_frames code s (outcome (script code input (control s)) s.memory) h (outcome_sound (Left code) (script code input (control s)) s.memory safe)
]

no_word : (o : Option Integer) (t : TrapWord) (site : Site) → step_word o ≡ Trapped t site → ⊥
no_word None t site e = absurd cc
no_word (Some n) t site e = absurd cc

other : (code : Code) (s : State Picture) (o : Result Acted TrapWord × Picture) (site : Site) → Sound (Left code) o.0 → (finish code s o).0 ≡ Trapped Unreachable site → ⊥
other code s (Ok a, m) site q e = no_word a.ended Unreachable site e
other code s (Err t, m) site q e = let same : t ≡ Unreachable = cc in q same

step_stops : (code : Code) (input : Text) (s : State Picture) (site : Site) → CodeTyped code → FramesTyped code s.frames → (step code input s).0 ≡ Trapped Unreachable site → StandsUnreachable code site
step_stops code input s site all h e = elim (script_safe code all input (control s) h) [
  | inl st ↦
      let t : Trapped Unreachable (site_of code (top s.frames)) ≡ Trapped Unreachable site = subst (λ t. (finish code s (outcome t s.memory)).0 ≡ Trapped Unreachable site) st.stops e in
      let there : site_of code (top s.frames) ≡ site = cc in
      record { frame = st.frame; typed = st.typed; is = st.is; here = sym there ∙ ap (site_of code) st.is_top }
  | inr safe ↦ absurd (other code s (outcome (script code input (control s)) s.memory) site (outcome_sound (Left code) (script code input (control s)) s.memory safe) e)
]

-- ---- runs

going : (code : Code) (site : Site) (a : Step) (s : State Picture) (rest : End × State Picture) → (a ≡ Trapped Unreachable site → StandsUnreachable code site) → (rest.0 ≡ end.Trapped Unreachable site → StandsUnreachable code site)
    → (goes_on a s rest).0 ≡ end.Trapped Unreachable site → StandsUnreachable code site
going code site Next s rest now later e = later e
going code site (Ended n) s rest now later e = absurd cc
going code site (Trapped t at) s rest now later e =
    let trap : t ≡ Unreachable = cc in
    let there : at ≡ site = cc in
    now (subst (λ u. Trapped u at ≡ Trapped Unreachable site) (sym trap) (ap (Trapped Unreachable) there))
going code site (Failed f at) s rest now later e = absurd cc

pub runs_stop : TypedRunsStop
runs_stop code input s zero site all h e = absurd cc
runs_stop code input s (suc n) site all h e =
    going code site (step code input s).0 (step code input s).1 (steps_from code input (step code input s).1 n) (step_stops code input s site all h)
    (runs_stop code input (step code input s).1 n site all (step_keeps code input s all h)) e
