use Rattle.instr_laws.proofs.FormLaws.{load_laws}
use Rattle.instr_laws.proofs.loads_are_read.Goals as goal

pub returns : goal.returns
returns c = load_laws
