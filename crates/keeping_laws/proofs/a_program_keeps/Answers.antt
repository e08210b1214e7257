use Rattle.keeping_laws.proofs.Programs.{program_keeps}
use Rattle.keeping_laws.proofs.a_program_keeps.Goals as goal

pub returns : goal.returns
returns c = program_keeps
