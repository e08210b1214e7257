use Rattle.module_laws.proofs.BlockLaws.{instructions_laws}
use Rattle.module_laws.proofs.instructions_are_read.Goals as goal

pub returns : goal.returns
returns c = λ n known. instructions_laws known n
