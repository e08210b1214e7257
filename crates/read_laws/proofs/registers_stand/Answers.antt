use Rattle.read_laws.proofs.Instructions.{registers_stand}
use Rattle.read_laws.proofs.registers_stand.Goals as goal

pub returns : goal.returns
returns c = registers_stand
