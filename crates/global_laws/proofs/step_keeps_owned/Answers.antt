use Rattle.global_laws.proofs.Runs.{step_keeps_owned}
use Rattle.global_laws.proofs.step_keeps_owned.Goals as goal

pub returns : goal.returns
returns c = step_keeps_owned
