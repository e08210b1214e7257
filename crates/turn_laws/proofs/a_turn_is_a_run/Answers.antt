use Rattle.turn_laws.proofs.Turns.{turn_is_run}
use Rattle.turn_laws.proofs.a_turn_is_a_run.Goals as goal

pub returns : goal.returns
returns c = turn_is_run
