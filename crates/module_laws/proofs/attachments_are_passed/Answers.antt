use Rattle.module_laws.proofs.SkippedLaws.{attached_laws}
use Rattle.module_laws.proofs.attachments_are_passed.Goals as goal

pub returns : goal.returns
returns c = attached_laws
