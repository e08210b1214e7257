use Rattle.print_values.proofs.Standing.{operands_stand}
use Rattle.print_values.proofs.operands_stand.Goals as goal

pub returns : goal.returns
returns c = operands_stand
