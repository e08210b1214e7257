use Rattle.turn_laws.proofs.Images.{names_rise}
use Rattle.turn_laws.proofs.names_rise.Goals as goal

pub returns : goal.returns
returns g c = names_rise _
