use Rattle.worked_plans.proofs.Worked.{counter_is_private}
use Rattle.worked_plans.proofs.a_counter_is_private.Goals as goal

pub returns : goal.returns
returns c = counter_is_private
