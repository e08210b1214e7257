use Rattle.module_laws.proofs.HeadLaws.{head_laws}
use Rattle.module_laws.proofs.heads_are_read.Goals as goal

pub returns : goal.returns
returns c = head_laws
