use Rattle.ir_reader.proofs.Gathering.{function_added, function_within}
use Rattle.ir_reader.proofs.so_far.SoFar.add_function.Goals as goal

pub returns-clause-adds : goal.returns-clause-adds
returns-clause-adds c = λ later grows. rw (c.in_ok-push.ensures.ok, c.in_ok-push-2.ensures.ok) (function_added c.args.names.now c.is_table.ensures c.args.self.now c.requires.so_far later grows c.args.function c.requires.name)

pub returns-clause-within : goal.returns-clause-within
returns-clause-within c = rw (c.in_ok-push.ensures.ok, c.in_ok-push-2.ensures.ok) (function_within c.args.names.now c.is_table.ensures c.args.self.now c.requires.so_far c.args.function c.requires.name)
