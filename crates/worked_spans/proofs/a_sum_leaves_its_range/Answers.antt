use Rattle.worked_spans.proofs.Worked.{sum_leaves_range, sum_stays, sum_is_committed}
use Rattle.worked_spans.proofs.a_sum_leaves_its_range.Goals as goal

pub returns-clause-sum_leaves_range : goal.returns-clause-sum_leaves_range
returns-clause-sum_leaves_range c = sum_leaves_range

pub returns-clause-sum_stays : goal.returns-clause-sum_stays
returns-clause-sum_stays c = sum_stays

pub returns-clause-sum_is_committed : goal.returns-clause-sum_is_committed
returns-clause-sum_is_committed c = sum_is_committed
