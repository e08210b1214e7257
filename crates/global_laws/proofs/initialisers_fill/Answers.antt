use Rattle.global_laws.proofs.Filled.{initialisers_fill}
use Rattle.global_laws.proofs.initialisers_fill.Goals as goal

pub returns : goal.returns
returns c = initialisers_fill
