use Rattle.turn_laws.proofs.Trees.{step_is_logged}
use Rattle.turn_laws.proofs.Sites.{step_log_is_at}
use Rattle.turn_laws.proofs.a_step_is_logged.Goals as goal

pub returns-clause-outcome : goal.returns-clause-outcome
returns-clause-outcome c = step_is_logged

pub returns-clause-site : goal.returns-clause-site
returns-clause-site c = step_log_is_at
