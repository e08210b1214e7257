use Rattle.worked_plans.proofs.Edges.{loops_disagree}
use Rattle.worked_plans.proofs.loops_disagree.Goals as goal

pub returns : goal.returns
returns c = loops_disagree
