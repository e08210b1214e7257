use Rattle.print_functions.proofs.Whole.{declarations_read_back}
use Rattle.print_functions.proofs.declarations_read_back.Goals as goal

pub returns : goal.returns
returns c = declarations_read_back
