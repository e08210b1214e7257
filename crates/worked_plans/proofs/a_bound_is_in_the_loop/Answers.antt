use Rattle.worked_plans.proofs.Edges.{a_bound_is_in_the_loop}
use Rattle.worked_plans.proofs.a_bound_is_in_the_loop.Goals as goal

pub returns : goal.returns
returns c = a_bound_is_in_the_loop
