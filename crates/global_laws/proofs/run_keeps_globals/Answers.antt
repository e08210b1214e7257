use Rattle.global_laws.proofs.Runs.{run_keeps_globals}
use Rattle.global_laws.proofs.run_keeps_globals.Goals as goal

pub returns : goal.returns
returns c = run_keeps_globals
