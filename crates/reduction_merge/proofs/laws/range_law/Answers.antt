use Rattle.reduction_merge.proofs.RangeSteps as steps
use Rattle.reduction_merge.proofs.laws.range_law.Goals as goal

pub returns : goal.returns
returns c = steps.range_law
