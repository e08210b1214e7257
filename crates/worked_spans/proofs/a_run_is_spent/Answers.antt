use Rattle.worked_spans.proofs.Worked.{writing_is_spent}
use Rattle.worked_spans.proofs.a_run_is_spent.Goals as goal

pub returns : goal.returns
returns c = writing_is_spent
