use Rattle.turn_laws.proofs.Trees.{follows_is_outcome, outcome_follows}
use Rattle.turn_laws.proofs.what_follows_is_the_meaning.Goals as goal

pub returns-clause-allowed : goal.returns-clause-allowed
returns-clause-allowed g c = follows_is_outcome _ _

pub returns-clause-follows : goal.returns-clause-follows
returns-clause-follows g c = outcome_follows _ _
