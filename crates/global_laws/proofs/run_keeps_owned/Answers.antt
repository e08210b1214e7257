use Rattle.global_laws.proofs.Runs.{run_keeps_owned}
use Rattle.global_laws.proofs.run_keeps_owned.Goals as goal

pub returns : goal.returns
returns c = run_keeps_owned
