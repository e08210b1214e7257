use Rattle.plan_laws.proofs.Flows.{flows_are_guessed}
use Rattle.plan_laws.proofs.flows_are_guessed.Goals as goal

pub returns : goal.returns
returns c = flows_are_guessed
