use Rattle.read_laws.proofs.Named.{types_stand}
use Rattle.read_laws.proofs.types_stand.Goals as goal

pub returns : goal.returns
returns c = types_stand
