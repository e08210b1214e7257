use Rattle.std.proofs.Common.{refl}
use Rattle.ir_reader.proofs.item.global_item.Goals as goal

pub returns-clause-reads : goal.returns-clause-reads
returns-clause-reads c = λ later grows. rw (c.in_ok-placed.ensures.reads later grows, c.in_ok-placed.ensures.bytes later grows) refl
