use Rattle.print_instrs.proofs.Filled.{values}
use Rattle.print_instrs.proofs.Instructions.{read_back}
use Rattle.print_instrs.proofs.instructions_read_back.Goals as goal

pub returns : goal.returns
returns c = read_back values
