use Rattle.module_laws.proofs.SkippedLaws.{comdat_laws}
use Rattle.module_laws.proofs.comdats_are_passed.Goals as goal

pub returns : goal.returns
returns c = comdat_laws
