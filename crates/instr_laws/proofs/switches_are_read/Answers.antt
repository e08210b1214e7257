use Rattle.instr_laws.proofs.ControlLaws.{switch_laws}
use Rattle.instr_laws.proofs.switches_are_read.Goals as goal

pub returns : goal.returns
returns c = switch_laws
