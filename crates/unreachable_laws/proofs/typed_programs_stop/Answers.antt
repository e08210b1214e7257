use Rattle.unreachable_laws.proofs.Programs.{programs_stop}
use Rattle.unreachable_laws.proofs.typed_programs_stop.Goals as goal

pub returns : goal.returns
returns c = programs_stop
