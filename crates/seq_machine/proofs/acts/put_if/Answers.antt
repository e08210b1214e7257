use Rattle.seq_machine.proofs.acts.put_if.Goals as goal

pub put-requires-clause-to : goal.put-requires-clause-to
put-requires-clause-to c = λ f e. rw c.in-Some.is at (c.requires.to f e)
