use Rattle.print_functions.proofs.Whole.{definitions_read_back}
use Rattle.print_functions.proofs.definitions_read_back.Goals as goal

pub returns : goal.returns
returns c = definitions_read_back
