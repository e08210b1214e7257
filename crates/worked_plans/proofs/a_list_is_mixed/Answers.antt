use Rattle.worked_plans.proofs.Worked.{list_is_mixed}
use Rattle.worked_plans.proofs.a_list_is_mixed.Goals as goal

pub returns : goal.returns
returns c = list_is_mixed
