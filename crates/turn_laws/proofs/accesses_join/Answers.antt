use Rattle.turn_laws.proofs.Images.{accesses_join}
use Rattle.turn_laws.proofs.accesses_join.Goals as goal

pub returns : goal.returns
returns c = accesses_join
