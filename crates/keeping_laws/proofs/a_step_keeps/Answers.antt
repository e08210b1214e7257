use Rattle.keeping_laws.proofs.Running.{step_keeps}
use Rattle.keeping_laws.proofs.a_step_keeps.Goals as goal

pub returns : goal.returns
returns c = step_keeps
