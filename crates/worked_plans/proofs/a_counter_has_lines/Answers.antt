use Rattle.worked_plans.proofs.Worked.{counter_has_lines}
use Rattle.worked_plans.proofs.a_counter_has_lines.Goals as goal

pub returns : goal.returns
returns c = counter_has_lines
