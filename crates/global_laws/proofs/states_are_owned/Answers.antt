use Rattle.global_laws.proofs.Runs.{states_are_owned}
use Rattle.global_laws.proofs.states_are_owned.Goals as goal

pub returns : goal.returns
returns c = states_are_owned
