use Rattle.std.proofs.Common.{arith, max}
use Rattle.mem_image.proofs.Kept.{kept_passed}
use Rattle.mem_image.proofs.image.Image.pass_over.Goals as goal

pub invariant_of-self : goal.invariant_of-self
invariant_of-self c =
    rw c.max-self-inside.ensures (kept_passed c.self.inside.objects.entries c.self.inside.next c.self.inside.live (max c.self.inside.next c.args.next) c.self.invariant (omega arith) (omega (arith, c.requires, c.self.invariant.picture.names)))
