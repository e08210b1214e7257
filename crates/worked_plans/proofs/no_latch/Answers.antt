use Rattle.worked_plans.proofs.Edges.{no_latch}
use Rattle.worked_plans.proofs.no_latch.Goals as goal

pub returns : goal.returns
returns c = no_latch
