use Rattle.turn_laws.proofs.Firsts.{arrived_is_first, first_is_arrived}
use Rattle.turn_laws.proofs.a_turn_ends_at_the_first.Goals as goal

pub returns-clause-arrived : goal.returns-clause-arrived
returns-clause-arrived c = arrived_is_first

pub returns-clause-first : goal.returns-clause-first
returns-clause-first c = first_is_arrived
