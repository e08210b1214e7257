use Rattle.read_laws.proofs.Instructions.{indices_inside}
use Rattle.read_laws.proofs.indices_stand.Goals as goal

pub returns : goal.returns
returns c = indices_inside
