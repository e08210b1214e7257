-- The top frame of a state changes.
use Rattle.std.proofs.Common.{◌≡◌, ℕ, zero, suc, ◌+◌, ◌≤◌, ◌<◌, ◌⊎◌, inl, inr, List, [], ◌∷◌, length, slice_get, slice_set, Option, Some, None, refl, sym, ◌∙◌, ap, arith, length-set}
use Rattle.ir_code.specs.declared.op.Scalar.{Scalar}
use Rattle.ir_code.specs.declared.code.Code.{Code}
use Rattle.mem_image.specs.Picture.{Picture}
use Rattle.seq_effects.specs.declared.state.Value.{Value}
use Rattle.seq_effects.specs.declared.state.Frame.{Frame}
use Rattle.seq_effects.specs.Values.{AreOf, IsOf}
use Rattle.seq_machine.specs.declared.state.State.{State}
use Rattle.seq_machine.specs.Acts.{top, with_top, next, types_of, function_at, block_at, phis_of}
use Rattle.seq_machine.specs.Frames.{FrameOf, FramesOf, HasMore}
use Rattle.seq_machine.specs.Owned.{OwnOf}
use Rattle.seq_machine.specs.Step.{StateOf}
use Rattle.seq_machine.proofs.FrameLists.{frames_set, are_set, get_set_other}
use Rattle.seq_machine.proofs.Kept.{top_some}
use Rattle.seq_machine.proofs.Owns.{same_own}
use Rattle.machine_calls.specs.Calls.{changed_from, with_changed, with_register, MayHold, passed_over}

-- the state with these frames and this count
abbrev pub with_frames : {M : Type 0} → State M → List Frame → ℕ → State M
with_frames s frames steps = record s { frames = frames; steps = steps }

pub changed_is : (change : Frame → Frame) (frames after : List Frame) → 0 < length frames → ((f : Frame) → top frames ≡ Some f → after ≡ with_top frames (change f)) → after ≡ with_changed change frames
changed_is change frames after filled h = let t = top_some frames filled in h t.0 t.1 ∙ sym (ap (changed_from change frames) t.1)

pub passed : {M : Type 0} (s : State M) (after : List Frame) → after ≡ with_changed next s.frames → with_frames s after (s.steps + 1) ≡ passed_over s
passed s after e = ap (λ frames. with_frames s frames (s.steps + 1)) e

-- a change that leaves the function and what the frame owns
pub state_changed : (code : Code) (s : State Picture) (after : List Frame) (steps : ℕ) (change : Frame → Frame) → StateOf code s → after ≡ with_changed change s.frames
    → ((f : Frame) → (change f).function ≡ f.function) → ((f : Frame) → (change f).own ≡ f.own) → ((f : Frame) → top s.frames ≡ Some f → FrameOf code f → FrameOf code (change f)) → StateOf code (with_frames s after steps)
state_changed code s after steps change h e function own frame = let kept = go (top s.frames) refl in record { frames = rw e kept.0; memory = h.memory; own = rw e kept.1 }
  where
    go : (o : Option Frame) → top s.frames ≡ o → FramesOf code (changed_from change s.frames o) × OwnOf (changed_from change s.frames o) s.memory
    go None t = (h.frames, h.own)
    go (Some f) t =
        let same = same_own s.frames f (change f) t (own f) in
        (frames_set code s.frames f (change f) h.frames t (frame f t (h.frames.each _ f t)) (function f), record { slots = rw same h.own.slots; once = rw same h.own.once })

pub frame_next : (code : Code) (f : Frame) → FrameOf code f → HasMore code f → FrameOf code (next f)
frame_next code f h more = record { function = h.function; block = h.block; phis = let le : phis_of (block_at code f) ≤ f.place = h.phis in omega arith; place = more; registers = h.registers }

frame_with : (code : Code) (f : Frame) (to : ℕ) (v : Option Value) → FrameOf code f → AreOf (types_of (function_at code f)) (slice_set f.registers to v) → FrameOf code (with_register to v f)
frame_with code f to v h typed = record { function = h.function; block = h.block; phis = h.phis; place = h.place; registers = typed }

unset : (registers : List (Option Value)) (to : ℕ) (w : Value) → slice_get (slice_set registers to None) to ≡ Some (Some w) → ⊥
unset [] to w e = absurd cc
unset (r ∷ rs) zero w e = absurd cc
unset (r ∷ rs) (suc to) w e = unset rs to w e

are_unset : (types : List Scalar) (registers : List (Option Value)) (to : ℕ) → AreOf types registers → AreOf types (slice_set registers to None)
are_unset types registers to h = record {
  count = length-set registers to None ∙ h.count;
  each = λ i t w e q. go i t w e q (search arith);
}
  where
    go : (i : ℕ) (t : Scalar) (w : Value) → slice_get types i ≡ Some t → slice_get (slice_set registers to None) i ≡ Some (Some w) → (i ≡ to) ⊎ (i ≡ to → ⊥) → IsOf t w
    go i t w e q (inl same) = absurd (unset registers to w (rw same at q))
    go i t w e q (inr other) = h.each i t w e (sym (get_set_other registers to i None other) ∙ q)

pub register_kept : (code : Code) (s : State Picture) (after : List Frame) (to : ℕ) (v : Value) → StateOf code s → MayHold code s.frames to v → after ≡ with_changed (with_register to (Some v)) s.frames → StateOf code (with_frames s after s.steps)
register_kept code s after to v h holds e =
    state_changed code s after s.steps (with_register to (Some v)) h e (λ f. refl) (λ f. refl)
    (λ f t ok. frame_with code f to (Some v) ok (are_set (types_of (function_at code f)) f.registers to v ok.registers (holds f t)))

pub register_unset : (code : Code) (s : State Picture) (after : List Frame) (to : ℕ) → StateOf code s → after ≡ with_changed (with_register to None) s.frames → StateOf code (with_frames s after s.steps)
register_unset code s after to h e =
    state_changed code s after s.steps (with_register to None) h e (λ f. refl) (λ f. refl) (λ f t ok. frame_with code f to None ok (are_unset (types_of (function_at code f)) f.registers to ok.registers))
