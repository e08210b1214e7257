use Rattle.module_laws.proofs.DefinitionLaws.{block_laws}
use Rattle.module_laws.proofs.blocks_are_read.Goals as goal

pub returns : goal.returns
returns c = block_laws
