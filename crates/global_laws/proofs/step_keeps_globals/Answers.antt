use Rattle.global_laws.proofs.Runs.{step_keeps_globals}
use Rattle.global_laws.proofs.step_keeps_globals.Goals as goal

pub returns : goal.returns
returns c = step_keeps_globals
