use Rattle.print_modules.proofs.Filled.{canonical_prints_the_same}
use Rattle.print_modules.proofs.prints_the_same.Goals as goal

pub returns : goal.returns
returns c = canonical_prints_the_same
