use Rattle.module_laws.proofs.HeadLaws.{param_laws}
use Rattle.module_laws.proofs.parameters_are_read.Goals as goal

pub returns : goal.returns
returns c = param_laws
