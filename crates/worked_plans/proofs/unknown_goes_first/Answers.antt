use Rattle.worked_plans.proofs.Edges.{unknown_goes_first}
use Rattle.worked_plans.proofs.unknown_goes_first.Goals as goal

pub returns : goal.returns
returns c = unknown_goes_first
