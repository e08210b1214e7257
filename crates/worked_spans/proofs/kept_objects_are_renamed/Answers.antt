use Rattle.worked_spans.proofs.Worked.{kept_objects_are_renamed}
use Rattle.worked_spans.proofs.kept_objects_are_renamed.Goals as goal

pub returns : goal.returns
returns c = kept_objects_are_renamed
