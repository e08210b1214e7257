use Rattle.worked_plans.proofs.Worked.{counter_is_reduction}
use Rattle.worked_plans.proofs.a_counter_is_a_reduction.Goals as goal

pub returns : goal.returns
returns c = counter_is_reduction
