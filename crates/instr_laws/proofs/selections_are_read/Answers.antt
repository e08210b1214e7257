use Rattle.instr_laws.proofs.FormLaws.{select_laws}
use Rattle.instr_laws.proofs.selections_are_read.Goals as goal

pub returns : goal.returns
returns c = select_laws
