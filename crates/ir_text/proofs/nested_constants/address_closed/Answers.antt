use Rattle.std.proofs.Common.{refl}
use Rattle.ir_text.proofs.ConstantSteps.{shown_is}
use Rattle.ir_text.proofs.nested_constants.address_closed.Goals as goal

pub returns-clause-reads : goal.returns-clause-reads
returns-clause-reads c = λ later grows. rw (c.in_ok-mark.ensures.reads, shown_is later c.args.address.indices, c.in_ok-address.ensures.shows.from later grows) refl
