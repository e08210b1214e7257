use Rattle.period_rules.proofs.Firsts.{spent_over}
use Rattle.period_rules.proofs.spent_runs_are_over.Goals as goal

pub returns : goal.returns
returns c = spent_over
