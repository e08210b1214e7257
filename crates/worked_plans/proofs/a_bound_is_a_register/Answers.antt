use Rattle.worked_plans.proofs.Edges.{a_bound_is_a_register}
use Rattle.worked_plans.proofs.a_bound_is_a_register.Goals as goal

pub returns : goal.returns
returns c = a_bound_is_a_register
