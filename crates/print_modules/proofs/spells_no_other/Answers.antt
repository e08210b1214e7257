use Rattle.print_modules.proofs.Filled.{canonical_spells_no_other}
use Rattle.print_modules.proofs.spells_no_other.Goals as goal

pub returns : goal.returns
returns c = canonical_spells_no_other
