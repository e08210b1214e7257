use Rattle.reduction_laws.proofs.Steps as steps
use Rattle.reduction_laws.proofs.any_order_is_finished.Goals as goal

pub returns : goal.returns
returns c = steps.any_order_is_finished
