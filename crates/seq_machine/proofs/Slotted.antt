-- What an instruction that makes a stack object leaves, and where want of memory changes nothing.
use Rattle.std.proofs.Common.{◌≡◌, ℕ, List, Option, Some, None, Result, Ok, Err, OnErr, refl, ap}
use Rattle.std.specs.Prelude.{IfOk, IfErr}
use Rattle.int_num.specs.Integer.{Integer}
use Rattle.pv_base.specs.Outside.{Text}
use Rattle.pv_base.specs.declared.place.Site.{Site}
use Rattle.ir_code.specs.declared.op.Scalar.{Scalar}
use Rattle.ir_code.specs.declared.op.Op.{Op}
use Rattle.ir_code.specs.declared.op.Op.TheVariants as op
use Rattle.ir_code.specs.declared.code.FunctionCode.{FunctionCode}
use Rattle.ir_code.specs.declared.code.Code.{Code}
use Rattle.mem_image.specs.declared.fault.Fault.{Fault}
use Rattle.mem_image.specs.declared.fault.Fault.TheVariants.{Trap, Check, Memory}
use Rattle.mem_image.specs.Picture.{Picture, IsPicture}
use Rattle.mem_image.specs.Calls.{Call, Reply, does, Fits}
use Rattle.seq_effects.specs.declared.state.Frame.{Frame}
use Rattle.seq_effects.specs.declared.state.Effect.{Effect}
use Rattle.seq_effects.specs.declared.state.Effect.TheVariants as effect
use Rattle.seq_effects.specs.Accesses.{alloca}
use Rattle.seq_effects.specs.Effects.{EffectFor, MayStop, MayWant, StopsAt}
use Rattle.seq_effects.specs.Script.{Follows, Tells, tell, chain, sent}
use Rattle.seq_effects.specs.Values.{SetsOwn}
use Rattle.seq_machine.specs.Acts.{Control, acted, acted_of, top, with_top, slotted, function_at, types_of}
use Rattle.seq_machine.specs.Frames.{HasMore, FramesOf}
use Rattle.seq_machine.specs.Owned.{OwnOf}
use Rattle.seq_machine.specs.Meaning.{meaning}
use Rattle.seq_machine.specs.Step.{here, site_at}
use Rattle.seq_machine.proofs.FrameLists.{same_some}
use Rattle.seq_machine.proofs.Kept.{kept_keep, kept_put}
use Rattle.seq_machine.proofs.Owns.{follows_left, own_after}
use Rattle.seq_machine.proofs.Steps.{here_of, here_same, performed, cut_off}

-- only a stack slot's instruction leaves the frame a name to keep
keeps_none : (code : Code) (g : FunctionCode) (o : Op) (to name : ℕ) → ((r size : ℕ) → o ≡ op.Alloca r size → ⊥) → EffectFor code g o (effect.Keep to name) → ⊥
keeps_none code g (op.Alloca r size) to name other is = other r size refl
keeps_none code g _ to name other is = is

wants_stop : (code : Code) (g : FunctionCode) (o : Op) (e : Effect) → ((r size : ℕ) → o ≡ op.Alloca r size → ⊥) → EffectFor code g o e → MayWant e → MayStop e
wants_stop code g o (effect.Keep to name) other is s = keeps_none code g o to name other is
wants_stop code g o (effect.Edge e) other is s = tt
wants_stop code g o (effect.Enter k registers) other is s = tt
wants_stop code g o (effect.Print text to v) other is s = tt
wants_stop code g o _ other is s = s

-- an effect of another instruction that ends with a fault came without a change
pub stop_quiet : {A : Type 0} (code : Code) (g : FunctionCode) (o : Op) (e : Effect) (r : Result A Fault) (P : Type 0) → ((to size : ℕ) → o ≡ op.Alloca to size → ⊥) → EffectFor code g o e → IfErr r (StopsAt e) → (MayStop e → P) → OnErr r P
stop_quiet code g o e (Ok a) P other is s quiet = tt
stop_quiet code g o e (Err (Trap t)) P other is s quiet = quiet s
stop_quiet code g o e (Err (Check f)) P other is s quiet = elim s [ ]
stop_quiet code g o e (Err Memory) P other is s quiet = quiet (wants_stop code g o e other is s)

-- ---- a stack object is made

-- the effect is done
slot_told : (code : Code) (g : FunctionCode) (f : Frame) (c : Control) (types : List Scalar) (e : Effect) (frames : List Frame) → SetsOwn types e → frames ≡ with_top c.frames (slotted f e) → Tells (acted code g f c e) (Ok (acted_of frames c.input_place c.output None))
slot_told code g f c types (effect.Keep to name) frames h is = ap (λ x. acted_of x c.input_place c.output None) is
slot_told code g f c types (effect.Give to v) frames h is = ap (λ x. acted_of x c.input_place c.output None) is
slot_told code g f c types _ frames h is = elim h [ ]

slot_kept : (code : Code) (f : Frame) (e : Effect) (frames after : List Frame) → FramesOf code frames → top frames ≡ Some f → HasMore code f → SetsOwn (types_of (function_at code f)) e → after ≡ with_top frames (slotted f e) → FramesOf code after
slot_kept code f (effect.Keep to name) frames after h t more sets is = kept_keep {A = Unit {0}} code frames after f to name (Ok tt) h t more sets (λ g u. rw (same_some (top frames) g f u t) is) tt
slot_kept code f (effect.Give to v) frames after h t more sets is = rw is (kept_put code frames f to v h t more sets)
slot_kept code f _ frames after h t more sets is = elim sets [ ]

pub slot_stays : (code : Code) (g : FunctionCode) (f : Frame) (frames after : List Frame) (r : Result Effect Fault) → FramesOf code frames → top frames ≡ Some f → function_at code f ≡ Some g → HasMore code f → IfOk r (SetsOwn g.registers)
    → IfOk r (λ e. (f' : Frame) → top frames ≡ Some f' → after ≡ with_top frames (slotted f' e)) → OnErr r (after ≡ frames) → FramesOf code after
slot_stays code g f frames after (Ok e) h t is more sets made err = slot_kept code f e frames after h t more (rw is sets) (made f t)
slot_stays code g f frames after (Err x) h t is more sets made err = rw err h

module _ {M : Type 0} (image : M → Picture) (R : M → Call → Result Reply Fault → M → Type 0) (code : Code) (g : FunctionCode) (f : Frame) (c : Control) (site : Site) (input : Text) (to size : ℕ) (m n : M) where
  asked : (r : Result Effect Fault) → Follows image R (alloca g.registers site to size) m r n → Follows image R (meaning (here_of code g f site input c.input_place) (op.Alloca to size)) m r n
  unfolding meaning
  asked r h = h

  -- by its calls
  pub slot_follows : (o : Op) (frames : List Frame) (r : Result Effect Fault) → o ≡ op.Alloca to size → site ≡ site_at code f → top c.frames ≡ Some f → Follows image R (alloca g.registers site to size) m r n → IfOk r (SetsOwn g.registers)
      → IfOk r (λ e. (f' : Frame) → top c.frames ≡ Some f' → frames ≡ with_top c.frames (slotted f' e))
      → Follows image R (chain (meaning (here code g f input c.input_place) o) (λ e. tell (acted code g f c e))) m (sent (acted_of frames c.input_place c.output) (sent {B = Option Integer} (λ _. None) r)) n
  slot_follows o frames (Ok e) is at t h sets made =
      rw is (performed image R code g f c (here_of code g f site input c.input_place) (here code g f input c.input_place) (op.Alloca to size) m n (here_same code g f f site input c.input_place refl at)
      e (Ok (acted_of frames c.input_place c.output None)) (asked (Ok e) h) (slot_told code g f c g.registers e frames sets (made f t)))
  slot_follows o frames (Err x) is at t h sets made =
      rw is (cut_off image R code g f c (here_of code g f site input c.input_place) (here code g f input c.input_place) (op.Alloca to size) m n (here_same code g f f site input c.input_place refl at) x (asked (Err x) h))

  -- the names of the memory and what the frames own
  pub slot_owned : (sound : (m n : M) (call : Call) (answer : Result Reply Fault) → R m call answer n → Fits (does (image m) call) (image m) answer (image n)) (frames : List Frame) (r : Result Effect Fault) → IsPicture (image m) → OwnOf c.frames (image m) → top c.frames ≡ Some f
      → Follows image R (alloca g.registers site to size) m r n → IfOk r (SetsOwn g.registers) → IfOk r (λ e. (f' : Frame) → top c.frames ≡ Some f' → frames ≡ with_top c.frames (slotted f' e))
      → OnErr r (image n ≡ image m) → OnErr r (frames ≡ c.frames) → IsPicture (image n) × OwnOf frames (image n)
  slot_owned sound frames (Ok e) p own t h sets made i err =
      let left = follows_left image R sound (here_of code g f site input c.input_place) (op.Alloca to size) e m n sets p (asked (Ok e) h) in
      (left.0, own_after code g f c e (image m) (image n) frames c.input_place c.output (Ok None) (Unit {0}) (Unit {0}) p own t left.1 (slot_told code g f c g.registers e frames sets (made f t)) tt tt)
  slot_owned sound frames (Err x) p own t h sets made i err = rw (i, err) (p, own)
