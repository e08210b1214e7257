use Rattle.print_modules.proofs.Filled.{canonical_reads_back}
use Rattle.print_modules.proofs.reads_back.Goals as goal

pub returns : goal.returns
returns c = canonical_reads_back
