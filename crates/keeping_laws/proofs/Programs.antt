-- A run of the program of a module.
use Rattle.ir_code.specs.Coding.{code_of}
use Rattle.seq_run.specs.First.{first_state}
use Rattle.keeping_laws.specs.Laws.{ProgramKeeps}
use Rattle.keeping_laws.proofs.Running.{run_keeps}
use Rattle.keeping_laws.proofs.Firsts.{first_keeps}
use Rattle.keeping_laws.proofs.Coding.{codes_fit}

pub program_keeps : ProgramKeeps
program_keeps m input n h b = run_keeps (code_of m) input (first_state m) n (codes_fit m h) b (first_keeps m h)
