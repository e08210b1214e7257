use Rattle.plan_laws.proofs.Loops.{loops_agree}
use Rattle.plan_laws.proofs.loops_agree.Goals as goal

pub returns : goal.returns
returns c = loops_agree
