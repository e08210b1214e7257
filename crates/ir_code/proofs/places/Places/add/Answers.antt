use Rattle.std.proofs.Common.{sym}
use Rattle.ir_code.proofs.Noted.{noted}
use Rattle.ir_code.proofs.places.Places.add.Goals as goal

pub invariant_of-self-in-Ok : goal.invariant_of-self-in-Ok
invariant_of-self-in-Ok c = noted c.self.inside.names _ _ _ c.args.name c.self.invariant (rw (sym c.len-place.ensures) c.in-Ok.ensures.ok) c.in_ok-push.ensures.ok
