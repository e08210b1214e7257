use Rattle.seq_machine.proofs.acts.put_result.Goals as goal

pub put-requires-clause-to : goal.put-requires-clause-to
put-requires-clause-to c = λ f e. rw (c.in-Some.is, c.in-Some-value.is) at (c.requires.to f e)
