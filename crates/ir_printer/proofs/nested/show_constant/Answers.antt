use Rattle.std.proofs.Common.{refl, sym}
use Rattle.std.specs.Prelude.{codes}
use Rattle.ir_printer.specs.Operands.{constant_pieces}
use Rattle.ir_printer.proofs.Parts.{constant_is, constant_past}
use Rattle.ir_printer.proofs.Stacks.{put_none}
use Rattle.ir_printer.proofs.nested.show_constant.Goals as goal

pub returns-in-Some : goal.returns-in-Some
returns-in-Some c = rw (constant_is c.args.names.now c.args.of c.in-Some.node.now (sym c.in-Some.ensures)) c.begin_constant.ensures

pub returns-in-None : goal.returns-in-None
unfolding constant_pieces
returns-in-None c =
    put_none c.args.names.now c.args.to.now c.append.new.self (codes "null") c.args.stack.now _ c.append.result c.append.ensures.ok
    (rw (constant_past c.args.names.now c.args.of (sym c.in-None.ensures)) refl)
