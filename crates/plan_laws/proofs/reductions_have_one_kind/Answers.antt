use Rattle.plan_laws.proofs.Reductions.{reductions_have_one_kind}
use Rattle.plan_laws.proofs.reductions_have_one_kind.Goals as goal

pub returns : goal.returns
returns c = reductions_have_one_kind
