use Rattle.resolving_laws.proofs.Laws.{all_are_resolved}
use Rattle.resolving_laws.proofs.all_are_resolved.Goals as goal

pub returns : goal.returns
returns c = all_are_resolved
