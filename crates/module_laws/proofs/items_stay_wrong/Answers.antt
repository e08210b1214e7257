use Rattle.module_laws.proofs.Staying.{items_stay_wrong}
use Rattle.module_laws.proofs.items_stay_wrong.Goals as goal

pub returns : goal.returns
returns c = items_stay_wrong
