use Rattle.read_laws.proofs.Functions.{declarations_stand}
use Rattle.read_laws.proofs.declarations_stand.Goals as goal

pub returns : goal.returns
returns c = declarations_stand
