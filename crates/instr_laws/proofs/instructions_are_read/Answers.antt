use Rattle.instr_laws.proofs.InstructionLaws.{instruction_laws}
use Rattle.instr_laws.proofs.instructions_are_read.Goals as goal

pub returns : goal.returns
returns c = instruction_laws
