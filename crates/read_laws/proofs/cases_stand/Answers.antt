use Rattle.read_laws.proofs.Instructions.{cases_stand}
use Rattle.read_laws.proofs.cases_stand.Goals as goal

pub returns : goal.returns
returns c = cases_stand
