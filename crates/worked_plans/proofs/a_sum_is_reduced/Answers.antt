use Rattle.worked_plans.proofs.Worked.{sum_is_reduced}
use Rattle.worked_plans.proofs.a_sum_is_reduced.Goals as goal

pub returns : goal.returns
returns c = sum_is_reduced
