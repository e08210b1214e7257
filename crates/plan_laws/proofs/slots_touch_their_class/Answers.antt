use Rattle.plan_laws.proofs.Laws.{slots_touch_their_class}
use Rattle.plan_laws.proofs.slots_touch_their_class.Goals as goal

pub returns : goal.returns
returns c = slots_touch_their_class
