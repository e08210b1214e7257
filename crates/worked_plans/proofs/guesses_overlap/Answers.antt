use Rattle.worked_plans.proofs.Worked.{list_guesses_overlap}
use Rattle.worked_plans.proofs.guesses_overlap.Goals as goal

pub returns : goal.returns
returns c = list_guesses_overlap
