use Rattle.turn_laws.proofs.Images.{accesses_are_live}
use Rattle.turn_laws.proofs.accesses_are_live.Goals as goal

pub returns : goal.returns
returns c = accesses_are_live
