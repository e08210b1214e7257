use Rattle.worked_plans.proofs.Edges.{the_right_is_tested}
use Rattle.worked_plans.proofs.the_right_is_tested.Goals as goal

pub returns : goal.returns
returns c = the_right_is_tested
