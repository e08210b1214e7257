use Rattle.keeping_laws.proofs.Meanings.{instructions_fit}
use Rattle.keeping_laws.proofs.instructions_fit.Goals as goal

pub returns : goal.returns
returns c = instructions_fit
