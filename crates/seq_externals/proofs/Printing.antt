-- The functions that print texts.
use Rattle.std.proofs.Common.{◌≡◌, ◌++◌, ◌∷◌, [], ℕ, List, Option, Result, Ok, Err}
use Rattle.pv_base.specs.Outside.{Text}
use Rattle.pv_base.specs.declared.place.Site.{Site}
use Rattle.ir_code.specs.declared.op.Scalar.{Scalar}
use Rattle.ir_code.specs.declared.op.Operand.{Operand}
use Rattle.mem_image.specs.declared.object.Pointer.{Pointer}
use Rattle.mem_image.specs.declared.fault.Fault.{Fault}
use Rattle.mem_image.specs.Picture.{Picture}
use Rattle.mem_image.specs.Calls.{Call, Reply}
use Rattle.seq_effects.specs.declared.state.Effect.{Effect}
use Rattle.seq_effects.specs.declared.state.Frame.{Frame}
use Rattle.seq_effects.specs.Script.{Script, tell, Follows, Tells}
use Rattle.seq_effects.specs.Values.{pointer}
use Rattle.seq_externals.specs.Externals.{text_at, puts, printing}
use Rattle.seq_effects.proofs.Follow.{follows_chain, follows_cut}
use Rattle.seq_effects.proofs.Arms.{tells_follows}

module _ {M : Type 0} (image : M → Picture) (R : M → Call → Result Reply Fault → M → Type 0) (types : List Scalar) (f : Frame) (at : Site) (to : Option ℕ) (x : Operand) (p : Pointer) (m n : M) (e : Ok p ≡ pointer f x) where
  line : Text → Script Effect
  line bytes = tell (printing types to (bytes ++ 10 ∷ []) 0)

  pub puts_cut : (fault : Fault) → Follows image R (text_at at 0 p) m (Err fault) n → Follows image R (puts types f at to (x ∷ [])) m (Err fault) n
  unfolding line
  puts_cut fault h = rw (← e) (follows_cut image R (text_at at 0 p) line m n fault h)

  pub puts_done : (bytes : Text) (answer : Result Effect Fault) → Follows image R (text_at at 0 p) m (Ok bytes) n → Tells (printing types to (bytes ++ 10 ∷ []) 0) answer → Follows image R (puts types f at to (x ∷ [])) m answer n
  unfolding line
  puts_done bytes answer h a = rw (← e) (follows_chain image R (text_at at 0 p) line m n n bytes answer h (tells_follows image R (printing types to (bytes ++ 10 ∷ []) 0) answer n a))
