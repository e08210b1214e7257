use Rattle.ir_reader.proofs.Gathering.{type_added, type_within}
use Rattle.ir_reader.proofs.so_far.SoFar.add_type.Goals as goal

pub returns-clause-adds : goal.returns-clause-adds
returns-clause-adds c = λ later grows. rw c.in_ok-push.ensures.ok (type_added c.args.names.now c.is_table.ensures c.args.self.now c.requires.so_far later grows c.args.named c.requires.name)

pub returns-clause-within : goal.returns-clause-within
returns-clause-within c = rw c.in_ok-push.ensures.ok (type_within c.args.names.now c.is_table.ensures c.args.self.now c.requires.so_far c.args.named c.requires.name)
