use Rattle.instr_laws.proofs.FormLaws.{binary_laws}
use Rattle.instr_laws.proofs.binaries_are_read.Goals as goal

pub returns : goal.returns
returns c = binary_laws
