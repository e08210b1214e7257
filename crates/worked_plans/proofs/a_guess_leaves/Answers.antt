use Rattle.worked_plans.proofs.Worked.{list_guess_leaves}
use Rattle.worked_plans.proofs.a_guess_leaves.Goals as goal

pub returns : goal.returns
returns c = list_guess_leaves
