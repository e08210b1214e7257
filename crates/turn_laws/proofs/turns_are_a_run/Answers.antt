use Rattle.turn_laws.proofs.Settled.{turns_are_run}
use Rattle.turn_laws.proofs.turns_are_a_run.Goals as goal

pub returns : goal.returns
returns c = turns_are_run
