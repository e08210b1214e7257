use Rattle.module_laws.proofs.Uniqueness.{one_module}
use Rattle.module_laws.proofs.one_module.Goals as goal

pub returns : goal.returns
returns c = one_module
