use Rattle.unreachable_laws.proofs.Firsts.{first_is_typed}
use Rattle.unreachable_laws.proofs.first_is_typed.Goals as goal

pub returns : goal.returns
returns c = first_is_typed
