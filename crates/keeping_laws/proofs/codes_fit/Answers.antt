use Rattle.keeping_laws.proofs.Coding.{codes_fit}
use Rattle.keeping_laws.proofs.codes_fit.Goals as goal

pub returns : goal.returns
returns c = codes_fit
