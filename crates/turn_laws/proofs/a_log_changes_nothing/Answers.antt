use Rattle.turn_laws.proofs.Trees.{logged_is_outcome}
use Rattle.turn_laws.proofs.a_log_changes_nothing.Goals as goal

pub returns : goal.returns
returns g c = logged_is_outcome _ _
