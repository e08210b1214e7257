use Rattle.worked_spans.proofs.Worked.{rewriting_recovers}
use Rattle.worked_spans.proofs.a_period_is_recovered.Goals as goal

pub returns : goal.returns
returns c = rewriting_recovers
