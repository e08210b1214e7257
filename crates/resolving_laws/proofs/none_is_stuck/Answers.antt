use Rattle.resolving_laws.proofs.Laws.{none_is_stuck}
use Rattle.resolving_laws.proofs.none_is_stuck.Goals as goal

pub returns : goal.returns
returns c = none_is_stuck
