use Rattle.loop_plan.proofs.Counting.{each_is_counted}
use Rattle.loop_plan.proofs.laws.each_is_planned_or_left_out.Goals as goal

pub returns : goal.returns
returns c = each_is_counted
