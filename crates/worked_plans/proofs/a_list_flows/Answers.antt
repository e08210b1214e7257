use Rattle.worked_plans.proofs.Worked.{list_flows}
use Rattle.worked_plans.proofs.a_list_flows.Goals as goal

pub returns : goal.returns
returns c = list_flows
