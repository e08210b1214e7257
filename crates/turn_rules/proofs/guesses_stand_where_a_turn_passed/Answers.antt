use Rattle.turn_rules.proofs.Passing.{guesses_stand}
use Rattle.turn_rules.proofs.guesses_stand_where_a_turn_passed.Goals as goal

pub returns : goal.returns
returns c = guesses_stand
