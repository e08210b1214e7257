use Rattle.instr_laws.proofs.OneLaws.{one_instruction}
use Rattle.instr_laws.proofs.one_instruction.Goals as goal

pub returns : goal.returns
returns c = one_instruction
