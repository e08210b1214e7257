use Rattle.reduction_merge.proofs.Bounds as bounds
use Rattle.reduction_merge.proofs.laws.sums_law.Goals as goal

pub returns : goal.returns
returns c = bounds.sums_law
