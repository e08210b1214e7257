use Rattle.instr_laws.proofs.ControlLaws.{return_laws}
use Rattle.instr_laws.proofs.returns_are_read.Goals as goal

pub returns : goal.returns
returns c = return_laws
