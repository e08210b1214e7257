use Rattle.module_laws.proofs.GlobalLaws.{global_laws}
use Rattle.module_laws.proofs.globals_are_read.Goals as goal

pub returns : goal.returns
returns c = global_laws
