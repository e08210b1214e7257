use Rattle.worked_plans.proofs.Worked.{counter_without_test}
use Rattle.worked_plans.proofs.a_counter_without_a_test.Goals as goal

pub returns : goal.returns
returns c = counter_without_test
