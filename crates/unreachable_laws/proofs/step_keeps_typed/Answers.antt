use Rattle.unreachable_laws.proofs.Running.{step_keeps}
use Rattle.unreachable_laws.proofs.step_keeps_typed.Goals as goal

pub returns : goal.returns
returns c = step_keeps
