use Rattle.worked_spans.proofs.Worked.{memory_is_just_enough, memory_is_short}
use Rattle.worked_spans.proofs.memory_is_counted_together.Goals as goal

pub returns-clause-memory_is_just_enough : goal.returns-clause-memory_is_just_enough
returns-clause-memory_is_just_enough c = memory_is_just_enough

pub returns-clause-memory_is_short : goal.returns-clause-memory_is_short
returns-clause-memory_is_short c = memory_is_short
