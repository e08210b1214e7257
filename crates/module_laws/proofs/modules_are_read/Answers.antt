use Rattle.module_laws.proofs.ModuleLaws.{modules_laws}
use Rattle.module_laws.proofs.modules_are_read.Goals as goal

pub returns : goal.returns
returns c = λ n types known. modules_laws n known types
