use Rattle.turn_laws.proofs.Settled.{turn_is_one, turns_are_one}
use Rattle.turn_laws.proofs.turns_are_unique.Goals as goal

pub returns-clause-one : goal.returns-clause-one
returns-clause-one c = turn_is_one

pub returns-clause-many : goal.returns-clause-many
returns-clause-many c = turns_are_one
