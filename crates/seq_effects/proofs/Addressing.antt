-- The tree of `getelementptr`, from its parts.
use Rattle.std.proofs.Common.{◌≡◌, ℕ, Bool, ℤ, List, Result, Ok, Err}
use Rattle.ir_code.specs.declared.op.Scalar.{Scalar}
use Rattle.ir_code.specs.declared.op.Operand.{Operand}
use Rattle.ir_code.specs.declared.op.Index.{Index}
use Rattle.mem_image.specs.declared.object.Pointer.{Pointer as Address}
use Rattle.mem_image.specs.declared.fault.Trap.{Trap}
use Rattle.mem_image.specs.declared.fault.Fault.{Fault}
use Rattle.mem_image.specs.Picture.{Picture}
use Rattle.mem_image.specs.Calls.{Call, Reply}
use Rattle.seq_effects.specs.declared.state.Effect.{Effect}
use Rattle.seq_effects.specs.declared.state.Frame.{Frame}
use Rattle.seq_effects.specs.declared.state.Value.TheVariants.{Pointer}
use Rattle.seq_effects.specs.Script.{Script, tell, Follows}
use Rattle.seq_effects.specs.Effects.{lifted}
use Rattle.seq_effects.specs.Values.{pointer, given}
use Rattle.seq_effects.specs.Accesses.{distance, move, address}
use Rattle.seq_effects.proofs.Follow.{follows_chain, follows_cut}
use Rattle.seq_effects.proofs.Arms.{tell_follows}

module _ {M : Type 0} (image : M → Picture) (R : M → Call → Result Reply Fault → M → Type 0) (types : List Scalar) (f : Frame) (to : ℕ) (inbounds : Bool) (base : Operand) (indices : List Index) (p : Address) (d : ℤ) (m : M) (e : Ok p ≡ pointer f base) (g : Ok d ≡ distance f indices) where
  k : Address → Script Effect
  k q = tell (given types to (Pointer q))

  pub address_cut : (fault : Fault) → Follows image R (move inbounds p d) m (Err fault) m → Follows image R (address types f to inbounds base indices) m (Err fault) m
  unfolding k
  address_cut fault h = rw (← e, ← g) (follows_cut image R (move inbounds p d) k m m fault h)

  pub address_done : (q : Address) (r : Result Effect Trap) → Follows image R (move inbounds p d) m (Ok q) m → r ≡ given types to (Pointer q) → Follows image R (address types f to inbounds base indices) m (lifted r) m
  unfolding k
  address_done q r h same = rw (← e, ← g) (follows_chain image R (move inbounds p d) k m m m q (lifted r) h (rw (← same) (tell_follows image R r m)))
