use Rattle.plan_laws.proofs.Laws.{slots_have_one_class}
use Rattle.plan_laws.proofs.slots_have_one_class.Goals as goal

pub returns : goal.returns
returns c = slots_have_one_class
