use Rattle.unreachable_laws.proofs.There.{unreachable_is_there}
use Rattle.unreachable_laws.proofs.unreachable_is_there.Goals as goal

pub returns : goal.returns
returns c = unreachable_is_there
