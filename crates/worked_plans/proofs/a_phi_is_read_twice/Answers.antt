use Rattle.worked_plans.proofs.Edges.{a_phi_is_read_twice}
use Rattle.worked_plans.proofs.a_phi_is_read_twice.Goals as goal

pub returns : goal.returns
returns c = a_phi_is_read_twice
