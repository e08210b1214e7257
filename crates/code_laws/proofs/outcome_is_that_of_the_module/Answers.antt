use Rattle.code_laws.proofs.Running.{outcome_same}
use Rattle.code_laws.proofs.outcome_is_that_of_the_module.Goals as goal

pub returns : goal.returns
returns c = outcome_same
