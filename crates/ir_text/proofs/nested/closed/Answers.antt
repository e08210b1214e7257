use Rattle.ir_text.proofs.nested.closed.Goals as goal

pub returns-in-true-clause-reads : goal.returns-in-true-clause-reads
returns-in-true-clause-reads c = λ later known grows. rw c.in-true.is (c.packed.ensures.reads later known grows)

pub returns-in-false-clause-reads : goal.returns-in-false-clause-reads
returns-in-false-clause-reads c = λ later known grows. rw c.in-false.is (c.plain.ensures.reads later known grows)
