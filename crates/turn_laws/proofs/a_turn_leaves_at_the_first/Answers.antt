use Rattle.turn_laws.proofs.Firsts.{left_is_first, first_is_left}
use Rattle.turn_laws.proofs.a_turn_leaves_at_the_first.Goals as goal

pub returns-clause-left : goal.returns-clause-left
returns-clause-left c = left_is_first

pub returns-clause-first : goal.returns-clause-first
returns-clause-first c = first_is_left
