use Rattle.module_laws.proofs.DefinitionLaws.{definition_laws}
use Rattle.module_laws.proofs.definitions_are_read.Goals as goal

pub returns : goal.returns
returns c = definition_laws
