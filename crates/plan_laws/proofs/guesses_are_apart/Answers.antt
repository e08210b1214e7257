use Rattle.plan_laws.proofs.Guesses.{guesses_are_apart}
use Rattle.plan_laws.proofs.guesses_are_apart.Goals as goal

pub returns : goal.returns
returns c = guesses_are_apart
