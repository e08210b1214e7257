use Rattle.instr_laws.proofs.PhiLaws.{phi_laws}
use Rattle.instr_laws.proofs.phis_are_read.Goals as goal

pub returns : goal.returns
returns c = phi_laws
