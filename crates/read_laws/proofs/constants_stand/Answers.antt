use Rattle.read_laws.proofs.Instructions.{constants_stand}
use Rattle.read_laws.proofs.constants_stand.Goals as goal

pub returns : goal.returns
returns c = constants_stand
