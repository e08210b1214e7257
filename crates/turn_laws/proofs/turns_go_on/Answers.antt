use Rattle.turn_laws.proofs.Settled.{turns_go_on}
use Rattle.turn_laws.proofs.turns_go_on.Goals as goal

pub returns : goal.returns
returns c = turns_go_on
