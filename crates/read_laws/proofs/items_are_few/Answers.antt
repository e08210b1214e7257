use Rattle.read_laws.proofs.Counts.{items_few}
use Rattle.read_laws.proofs.items_are_few.Goals as goal

pub returns : goal.returns
returns c = items_few
