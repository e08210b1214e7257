use Rattle.instr_laws.proofs.CallLaws.{argument_laws}
use Rattle.instr_laws.proofs.call_arguments_are_read.Goals as goal

pub returns : goal.returns
returns c = argument_laws
