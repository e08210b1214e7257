use Rattle.module_laws.proofs.SkippedLaws.{attributes_laws}
use Rattle.module_laws.proofs.attributes_are_passed.Goals as goal

pub returns : goal.returns
returns c = attributes_laws
