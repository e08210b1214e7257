use Rattle.reduction_laws.proofs.Commuting as commuting
use Rattle.reduction_laws.proofs.operations_commute.Goals as goal

pub returns : goal.returns
returns c = commuting.operations_commute
