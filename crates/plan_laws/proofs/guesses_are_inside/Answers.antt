use Rattle.plan_laws.proofs.Guesses.{guesses_are_inside}
use Rattle.plan_laws.proofs.guesses_are_inside.Goals as goal

pub returns : goal.returns
returns c = guesses_are_inside
