use Rattle.turn_laws.proofs.Relations.{next_begins, turn_then_turns, turn_before_turns}
use Rattle.turn_laws.proofs.a_turn_follows_a_turn.Goals as goal

pub returns-clause-begins : goal.returns-clause-begins
returns-clause-begins c = next_begins

pub returns-clause-joins : goal.returns-clause-joins
returns-clause-joins c = turn_then_turns

pub returns-clause-splits : goal.returns-clause-splits
returns-clause-splits c = turn_before_turns
