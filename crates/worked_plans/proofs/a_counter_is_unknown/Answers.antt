use Rattle.worked_plans.proofs.Worked.{counter_unknown}
use Rattle.worked_plans.proofs.a_counter_is_unknown.Goals as goal

pub returns : goal.returns
returns c = counter_unknown
