use Rattle.worked_spans.proofs.Worked.{writing_commits, writing_ends}
use Rattle.worked_spans.proofs.periods_are_committed.Goals as goal

pub returns-clause-writing_commits : goal.returns-clause-writing_commits
returns-clause-writing_commits c = writing_commits

pub returns-clause-writing_ends : goal.returns-clause-writing_ends
returns-clause-writing_ends c = writing_ends
