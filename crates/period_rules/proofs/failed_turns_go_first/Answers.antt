use Rattle.period_rules.proofs.Firsts.{failed_first}
use Rattle.period_rules.proofs.failed_turns_go_first.Goals as goal

pub returns : goal.returns
returns c = failed_first
