use Rattle.module_laws.proofs.SkippedLaws.{string_laws}
use Rattle.module_laws.proofs.strings_are_passed.Goals as goal

pub returns : goal.returns
returns c = string_laws
