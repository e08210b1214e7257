use Rattle.ir_instr.proofs.Contents.{no_type, content_shown, content_within}
use Rattle.ir_instr.proofs.addresses.content_of.Goals as goal

pub returns-in-Some-clause-is : goal.returns-in-Some-clause-is
returns-in-Some-clause-is c = λ later grows. rw c.content_of_node.ensures (content_shown c.args.names.now later c.is_table.ensures grows c.args.of c.in-Some.node.now c.in-Some.ensures)

pub returns-in-Some-clause-within : goal.returns-in-Some-clause-within
returns-in-Some-clause-within c = rw c.content_of_node.ensures (content_within c.args.names.now c.is_table.ensures c.args.of c.in-Some.node.now c.in-Some.ensures)

pub returns-in-None-clause-is : goal.returns-in-None-clause-is
returns-in-None-clause-is c = absurd (no_type c.args.names.now.types c.args.of c.in-None.ensures c.requires)
