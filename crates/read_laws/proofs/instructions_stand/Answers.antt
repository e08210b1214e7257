use Rattle.read_laws.proofs.Instructions.{instructions_stand}
use Rattle.read_laws.proofs.instructions_stand.Goals as goal

pub returns : goal.returns
returns c = instructions_stand
