use Rattle.ir_instr.proofs.Contents.{no_type, opened_shown, opened_stays}
use Rattle.ir_instr.proofs.addresses.opened.Goals as goal

pub returns-in-Some-clause-is : goal.returns-in-Some-clause-is
returns-in-Some-clause-is c = λ later grows. opened_shown c.args.names.now later c.is_table.ensures grows c.args.of c.in-Some.node.now c.in-Some.ensures c.args.known.now c.opened_node.result c.opened_node.ensures

pub returns-in-Some-clause-within : goal.returns-in-Some-clause-within
returns-in-Some-clause-within c = opened_stays c.args.names.now c.args.of c.in-Some.node.now c.args.known.now c.opened_node.result c.opened_node.ensures c.requires.within c.requires.types

pub returns-in-None-clause-is : goal.returns-in-None-clause-is
returns-in-None-clause-is c = absurd (no_type c.args.names.now.types c.args.of c.in-None.ensures c.requires.within)
