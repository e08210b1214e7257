use Rattle.ir_reader.proofs.Gathering.{global_added, global_within}
use Rattle.ir_reader.proofs.so_far.SoFar.add_global.Goals as goal

pub returns-clause-adds : goal.returns-clause-adds
returns-clause-adds c = λ later grows. rw (c.in_ok-push.ensures.ok, c.in_ok-push-2.ensures.ok) (global_added c.args.names.now c.is_table.ensures c.args.self.now c.requires.so_far later grows c.args.placed.global c.args.placed.bytes c.requires.name)

pub returns-clause-within : goal.returns-clause-within
returns-clause-within c = rw (c.in_ok-push.ensures.ok, c.in_ok-push-2.ensures.ok) (global_within c.args.names.now c.is_table.ensures c.args.self.now c.requires.so_far c.args.placed.global c.args.placed.bytes c.requires.name c.requires.size)
