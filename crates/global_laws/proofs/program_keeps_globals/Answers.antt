use Rattle.global_laws.proofs.Programs.{program_keeps_globals}
use Rattle.global_laws.proofs.program_keeps_globals.Goals as goal

pub returns : goal.returns
returns c = program_keeps_globals
