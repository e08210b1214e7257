-- Whether another instruction follows.
use Rattle.std.proofs.Common.{◌≡◌, ℕ, ◌+◌, ◌<◌, List, length, Some, IsTrue, nat_lt, arith}
use Rattle.std.specs.Prelude.{◌↔◌}
use Rattle.std.proofs.lemmas.Bool.Decides.{nat_tests}
use Rattle.ir_code.specs.declared.code.BlockCode.{BlockCode}
use Rattle.ir_code.specs.declared.code.Code.{Code}
use Rattle.seq_effects.specs.declared.state.Frame.{Frame}
use Rattle.seq_machine.specs.Acts.{top, block_at}
use Rattle.seq_machine.proofs.FrameLists.{same_some}
use Rattle.machine_calls.specs.Calls.{MoreIn}

of_test : (m n : ℕ) → IsTrue (nat_lt m n) → m < n
of_test m n h = grind (arith, nat_tests)

to_test : (m n : ℕ) → m < n → IsTrue (nat_lt m n)
to_test m n h = grind (arith, nat_tests)

pub more_in : (code : Code) (frames : List Frame) (f : Frame) (b : BlockCode) (count : ℕ) → top frames ≡ Some f → block_at code f ≡ Some b → count ≡ length b.ops → IsTrue (nat_lt (f.place + 1) count) ↔ MoreIn code frames
more_in code frames f b count t in_it is = (
  λ h g u. let same : f ≡ g = same_some (top frames) f g t u in let lt : f.place + 1 < count = of_test _ _ h in rw (← same, in_it) (rw is at lt),
  λ m. to_test _ _ (let lt = rw in_it at (m f t) in rw is lt),
)
