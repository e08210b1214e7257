use Rattle.worked_plans.proofs.Edges.{the_header_is_the_latch}
use Rattle.worked_plans.proofs.the_header_is_the_latch.Goals as goal

pub returns : goal.returns
returns c = the_header_is_the_latch
