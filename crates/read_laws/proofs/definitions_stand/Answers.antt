use Rattle.read_laws.proofs.Functions.{definitions_stand}
use Rattle.read_laws.proofs.definitions_stand.Goals as goal

pub returns : goal.returns
returns c = definitions_stand
