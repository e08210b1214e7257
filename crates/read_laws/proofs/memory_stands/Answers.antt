use Rattle.read_laws.proofs.Instructions.{memory_stands}
use Rattle.read_laws.proofs.memory_stands.Goals as goal

pub returns : goal.returns
returns c = memory_stands
