use Rattle.worked_plans.proofs.Edges.{the_header_is_not_listed}
use Rattle.worked_plans.proofs.the_header_is_not_listed.Goals as goal

pub returns : goal.returns
returns c = the_header_is_not_listed
