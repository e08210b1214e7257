use Rattle.worked_plans.proofs.Worked.{list_is_built}
use Rattle.worked_plans.proofs.a_list_is_built_in_turns.Goals as goal

pub returns : goal.returns
returns c = list_is_built
