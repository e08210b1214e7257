use Rattle.module_laws.proofs.ModuleLaws.{items_laws}
use Rattle.module_laws.proofs.items_are_read.Goals as goal

pub returns : goal.returns
returns c = items_laws
