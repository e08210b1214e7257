use Rattle.std.proofs.Common.{refl}
use Rattle.ir_text.proofs.ConstantSteps.{shown_is}
use Rattle.ir_text.proofs.nested_constants.constant_of.Goals as goal

pub returns-in_ok-array_of-in-Array-clause-reads : goal.returns-in_ok-array_of-in-Array-clause-reads
returns-in_ok-array_of-in-Array-clause-reads c = λ later grows. rw (c.in-Array.is, shown_is later c.args.elements, c.in_ok-array_of-in-Array.ensures.shows.from later grows) refl

pub returns-in_ok-structure_of-in-Struct-clause-reads : goal.returns-in_ok-structure_of-in-Struct-clause-reads
returns-in_ok-structure_of-in-Struct-clause-reads c = λ later grows. rw (c.in-Struct.is, shown_is later c.args.elements, c.in_ok-structure_of-in-Struct.ensures.shows.from later grows) refl

pub returns-in_ok-structure_of-in-Packed-clause-reads : goal.returns-in_ok-structure_of-in-Packed-clause-reads
returns-in_ok-structure_of-in-Packed-clause-reads c = λ later grows. rw (c.in-Packed.is, c.in_ok-mark-in-Packed.ensures.reads, shown_is later c.args.elements, c.in_ok-structure_of-in-Packed.ensures.shows.from later grows) refl
