use Rattle.print_instrs.proofs.Standing.{stand}
use Rattle.print_values.proofs.Standing.{types_stand, constants_stand, operands_stand}
use Rattle.print_instrs.proofs.instructions_stand.Goals as goal

pub returns : goal.returns
returns c = stand types_stand constants_stand operands_stand
