use Rattle.turn_laws.proofs.Settled.{turn_is_settled, turns_are_settled}
use Rattle.turn_laws.proofs.turns_are_settled.Goals as goal

pub returns-clause-one : goal.returns-clause-one
returns-clause-one c = turn_is_settled

pub returns-clause-many : goal.returns-clause-many
returns-clause-many c = turns_are_settled
