use Rattle.reduction_merge.proofs.Additions as lists
use Rattle.reduction_merge.proofs.laws.finish_law.Goals as goal

pub returns : goal.returns
returns c = lists.finish_law
