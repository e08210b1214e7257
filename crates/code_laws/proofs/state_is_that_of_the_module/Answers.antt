use Rattle.code_laws.proofs.Running.{state_same}
use Rattle.code_laws.proofs.state_is_that_of_the_module.Goals as goal

pub returns : goal.returns
returns c = state_same
