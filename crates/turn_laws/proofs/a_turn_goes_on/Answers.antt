use Rattle.turn_laws.proofs.Standing.{spent_is_within, within_goes_on}
use Rattle.turn_laws.proofs.a_turn_goes_on.Goals as goal

pub returns-clause-spent : goal.returns-clause-spent
returns-clause-spent c = spent_is_within

pub returns-clause-more : goal.returns-clause-more
returns-clause-more c = within_goes_on
