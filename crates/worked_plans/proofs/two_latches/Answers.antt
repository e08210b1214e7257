use Rattle.worked_plans.proofs.Edges.{two_latches}
use Rattle.worked_plans.proofs.two_latches.Goals as goal

pub returns : goal.returns
returns c = two_latches
