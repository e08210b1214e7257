use Rattle.print_values.proofs.ConstantTrees.{constants_back}
use Rattle.print_values.proofs.constants_read_back.Goals as goal

pub returns : goal.returns
returns c = constants_back
