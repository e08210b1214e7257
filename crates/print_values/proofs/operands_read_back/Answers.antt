use Rattle.print_values.proofs.ConstantTrees.{operands_back}
use Rattle.print_values.proofs.operands_read_back.Goals as goal

pub returns : goal.returns
returns c = operands_back
