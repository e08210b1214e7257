use Rattle.reduction_merge.proofs.Additions.{start_law, add_law, join_law}
use Rattle.reduction_merge.proofs.laws.operands_law.Goals as goal

pub returns : goal.returns
returns c = record { start = start_law; add = add_law; join = join_law }
