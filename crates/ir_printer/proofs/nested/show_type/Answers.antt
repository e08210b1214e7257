use Rattle.std.proofs.Common.{refl, sym}
use Rattle.std.specs.Prelude.{codes}
use Rattle.ir_tree.proofs.Filled.{type_is}
use Rattle.ir_printer.specs.Operands.{type_pieces}
use Rattle.ir_printer.proofs.Parts.{type_past}
use Rattle.ir_printer.proofs.Stacks.{put_none}
use Rattle.ir_printer.proofs.nested.show_type.Goals as goal

pub returns-in-Some : goal.returns-in-Some
returns-in-Some c = rw (type_is c.args.names.now c.args.of c.in-Some.node.now c.is_table.ensures (sym c.in-Some.ensures)) c.begin_type.ensures

pub returns-in-None : goal.returns-in-None
unfolding type_pieces
returns-in-None c =
    put_none c.args.names.now c.args.to.now c.append.new.self (codes "ptr") c.args.stack.now _ c.append.result c.append.ensures.ok
    (rw (type_past c.args.names.now c.args.of (sym c.in-None.ensures)) refl)
