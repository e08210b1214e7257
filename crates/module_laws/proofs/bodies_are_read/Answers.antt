use Rattle.module_laws.proofs.DefinitionLaws.{body_laws}
use Rattle.module_laws.proofs.bodies_are_read.Goals as goal

pub returns : goal.returns
returns c = body_laws
