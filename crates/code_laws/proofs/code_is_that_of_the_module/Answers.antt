use Rattle.code_laws.proofs.Functions.{code_same}
use Rattle.code_laws.proofs.code_is_that_of_the_module.Goals as goal

pub returns : goal.returns
returns c = code_same
