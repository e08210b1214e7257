use Rattle.module_laws.proofs.Staying.{bodies_stay_wrong}
use Rattle.module_laws.proofs.bodies_stay_wrong.Goals as goal

pub returns : goal.returns
returns c = bodies_stay_wrong
