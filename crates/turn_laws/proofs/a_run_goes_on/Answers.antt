use Rattle.turn_laws.proofs.Turns.{run_goes_on}
use Rattle.turn_laws.proofs.a_run_goes_on.Goals as goal

pub returns : goal.returns
returns c = run_goes_on
