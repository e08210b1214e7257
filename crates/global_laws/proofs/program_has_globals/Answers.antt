use Rattle.global_laws.proofs.Programs.{program_has_globals}
use Rattle.global_laws.proofs.program_has_globals.Goals as goal

pub returns : goal.returns
returns c = program_has_globals
