use Rattle.instr_laws.proofs.MemoryLaws.{alloca_laws}
use Rattle.instr_laws.proofs.allocas_are_read.Goals as goal

pub returns : goal.returns
returns c = alloca_laws
