use Rattle.print_values.proofs.Names.{names_back}
use Rattle.print_values.proofs.names_read_back.Goals as goal

pub returns : goal.returns
returns c = names_back
