use Rattle.print_values.proofs.TypeTrees.{types_back}
use Rattle.print_values.proofs.types_read_back.Goals as goal

pub returns : goal.returns
returns c = types_back
