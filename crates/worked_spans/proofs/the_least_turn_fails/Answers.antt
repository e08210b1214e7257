use Rattle.worked_spans.proofs.Worked.{least_turn_fails}
use Rattle.worked_spans.proofs.the_least_turn_fails.Goals as goal

pub returns : goal.returns
returns c = least_turn_fails
