use Rattle.print_values.proofs.Names.{names_fit}
use Rattle.print_values.proofs.names_fit.Goals as goal

pub returns : goal.returns
returns c = names_fit
