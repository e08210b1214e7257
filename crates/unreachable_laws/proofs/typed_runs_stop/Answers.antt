use Rattle.unreachable_laws.proofs.Running.{runs_stop}
use Rattle.unreachable_laws.proofs.typed_runs_stop.Goals as goal

pub returns : goal.returns
returns c = runs_stop
