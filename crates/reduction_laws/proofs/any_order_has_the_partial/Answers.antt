use Rattle.reduction_laws.proofs.Orders as orders
use Rattle.reduction_laws.proofs.any_order_has_the_partial.Goals as goal

pub returns : goal.returns
returns c = orders.any_order_has_the_partial
