use Rattle.turn_laws.proofs.Trees.{chains_are_logged}
use Rattle.turn_laws.proofs.chains_are_logged.Goals as goal

pub returns : goal.returns
returns g c = chains_are_logged _ _ _
