use Rattle.worked_plans.proofs.Edges.{entered_from_outside}
use Rattle.worked_plans.proofs.entered_from_outside.Goals as goal

pub returns : goal.returns
returns c = entered_from_outside
