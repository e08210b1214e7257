use Rattle.std.proofs.Common.{◌∙◌}
use Rattle.ir_code.proofs.Nodes.{not_past, constant_right}
use Rattle.ir_code.proofs.made.constant_in.Goals as goal

pub returns-in-Some : goal.returns-in-Some
returns-in-Some c =
    let table = rw c.names-names.ensures at c.is_table.ensures in
    let some = rw c.names-names.ensures at c.in-Some.ensures in
    c.constant_of.ensures ∙ constant_right c.args.module.now c.args.number c.in-Some.node.now c.args.constants.now c.as_pointer.result table c.requires.found c.requires.within some c.as_pointer.ensures

pub returns-in-None : goal.returns-in-None
returns-in-None c =
    let none = rw c.names-names.ensures at c.in-None.ensures in
    absurd (not_past c.args.module.now.names.constants c.args.number c.requires.within none)
