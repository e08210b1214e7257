use Rattle.worked_spans.proofs.Worked.{read_conflicts}
use Rattle.worked_spans.proofs.a_read_conflicts.Goals as goal

pub returns : goal.returns
returns c = read_conflicts
