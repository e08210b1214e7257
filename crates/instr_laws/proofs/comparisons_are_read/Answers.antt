use Rattle.instr_laws.proofs.FormLaws.{compare_laws}
use Rattle.instr_laws.proofs.comparisons_are_read.Goals as goal

pub returns : goal.returns
returns c = compare_laws
