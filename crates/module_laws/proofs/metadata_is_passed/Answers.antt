use Rattle.module_laws.proofs.SkippedLaws.{metadata_laws}
use Rattle.module_laws.proofs.metadata_is_passed.Goals as goal

pub returns : goal.returns
returns c = metadata_laws
