use Rattle.read_laws.proofs.Instructions.{answers_stand}
use Rattle.read_laws.proofs.answers_stand.Goals as goal

pub returns : goal.returns
returns c = answers_stand
