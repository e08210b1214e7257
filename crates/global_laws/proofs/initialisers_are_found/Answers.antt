use Rattle.global_laws.proofs.Found.{initialisers_are_found}
use Rattle.global_laws.proofs.initialisers_are_found.Goals as goal

pub returns : goal.returns
returns c = initialisers_are_found
