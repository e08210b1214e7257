use Rattle.instr_laws.proofs.FormLaws.{freeze_laws}
use Rattle.instr_laws.proofs.freezes_are_read.Goals as goal

pub returns : goal.returns
returns c = freeze_laws
