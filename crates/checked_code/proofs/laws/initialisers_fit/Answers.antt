use Rattle.checked_code.proofs.Sizes.{initialisers_fit}
use Rattle.checked_code.proofs.laws.initialisers_fit.Goals as goal

pub returns : goal.returns
returns c = initialisers_fit
