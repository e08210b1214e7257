use Rattle.loop_plan.proofs.Standing.{regions_stand}
use Rattle.loop_plan.proofs.laws.regions_stand.Goals as goal

pub returns : goal.returns
returns c = regions_stand
