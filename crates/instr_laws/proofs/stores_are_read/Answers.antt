use Rattle.instr_laws.proofs.FormLaws.{store_laws}
use Rattle.instr_laws.proofs.stores_are_read.Goals as goal

pub returns : goal.returns
returns c = store_laws
