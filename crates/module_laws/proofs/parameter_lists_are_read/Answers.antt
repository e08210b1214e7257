use Rattle.module_laws.proofs.HeadLaws.{params_laws}
use Rattle.module_laws.proofs.parameter_lists_are_read.Goals as goal

pub returns : goal.returns
returns c = params_laws
