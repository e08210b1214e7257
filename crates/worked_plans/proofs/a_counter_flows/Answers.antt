use Rattle.worked_plans.proofs.Worked.{counter_flows}
use Rattle.worked_plans.proofs.a_counter_flows.Goals as goal

pub returns : goal.returns
returns c = counter_flows
