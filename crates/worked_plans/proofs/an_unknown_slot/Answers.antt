use Rattle.worked_plans.proofs.Edges.{an_unknown_slot}
use Rattle.worked_plans.proofs.an_unknown_slot.Goals as goal

pub returns : goal.returns
returns c = an_unknown_slot
