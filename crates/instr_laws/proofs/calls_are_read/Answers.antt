use Rattle.instr_laws.proofs.CallLaws.{call_laws}
use Rattle.instr_laws.proofs.calls_are_read.Goals as goal

pub returns : goal.returns
returns c = call_laws
