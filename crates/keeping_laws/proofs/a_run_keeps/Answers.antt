use Rattle.keeping_laws.proofs.Running.{run_keeps}
use Rattle.keeping_laws.proofs.a_run_keeps.Goals as goal

pub returns : goal.returns
returns c = run_keeps
