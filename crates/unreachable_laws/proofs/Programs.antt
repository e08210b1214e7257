-- The run of a module's program.
use Rattle.ir_code.specs.Coding.{code_of}
use Rattle.seq_run.specs.First.{first_state}
use Rattle.unreachable_laws.specs.Laws.{TypedProgramsStop}
use Rattle.unreachable_laws.proofs.Running.{runs_stop}
use Rattle.unreachable_laws.proofs.Firsts.{first_is_typed}
use Rattle.unreachable_laws.proofs.There.{unreachable_is_there}

pub programs_stop : TypedProgramsStop
programs_stop m table checked typed input n site e = unreachable_is_there m table checked site (runs_stop (code_of m) input (first_state m) n site typed (first_is_typed m table checked) e)
