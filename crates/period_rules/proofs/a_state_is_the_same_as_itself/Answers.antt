use Rattle.period_rules.proofs.Firsts.{states_same}
use Rattle.period_rules.proofs.a_state_is_the_same_as_itself.Goals as goal

pub returns : goal.returns
returns c = states_same
