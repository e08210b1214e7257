use Rattle.std.proofs.Common.{sym, ap, ◌∙◌}
use Rattle.ir_code.specs.Fixed.{zero_of}
use Rattle.ir_tree.proofs.Opened.{type_past}
use Rattle.ir_code.proofs.Zeros.{zero_at}
use Rattle.ir_code.proofs.fixed.zero_of.Goals as goal

pub returns-in-Some : goal.returns-in-Some
returns-in-Some c = c.node_zero.ensures ∙ zero_at c.args.names.now c.args.of c.in-Some.node.now c.is_table.ensures (sym c.in-Some.ensures)

pub returns-in-None : goal.returns-in-None
returns-in-None c = ap zero_of (sym (type_past c.args.names.now c.args.of (sym c.in-None.ensures)))
