use Rattle.turn_laws.proofs.Trees.{recording_is_logged}
use Rattle.turn_laws.proofs.a_memory_may_keep_the_log.Goals as goal

pub returns : goal.returns
returns g c = recording_is_logged _ _
