use Rattle.plan_laws.proofs.Loops.{each_has_its_loop}
use Rattle.plan_laws.proofs.each_has_its_loop.Goals as goal

pub returns : goal.returns
returns c = each_has_its_loop
