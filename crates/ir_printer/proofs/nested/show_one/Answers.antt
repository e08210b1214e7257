use Rattle.std.proofs.Common.{refl}
use Rattle.std.specs.Prelude.{codes}
use Rattle.ir_printer.specs.Operands.{constant_pieces}
use Rattle.ir_printer.specs.Nesting.{show_pieces}
use Rattle.ir_printer.proofs.Stacks.{put_none}
use Rattle.ir_printer.proofs.nested.show_one.Goals as goal

pub returns-in-Type : goal.returns-in-Type
unfolding show_pieces
returns-in-Type c = rw c.in-Type.is c.show_type.ensures

pub returns-in-Constant : goal.returns-in-Constant
unfolding show_pieces
returns-in-Constant c = rw c.in-Constant.is c.show_constant.ensures

pub returns-in-Null : goal.returns-in-Null
unfolding show_pieces constant_pieces
returns-in-Null c = put_none c.args.names.now c.args.to.now c.append.new.self (codes "null") c.args.stack.now _ c.append.result c.append.ensures.ok (rw c.in-Null.is refl)

pub returns-in-Fields : goal.returns-in-Fields
unfolding show_pieces
returns-in-Fields c = rw c.in-Fields.is c.show_fields.ensures

pub returns-in-Elements : goal.returns-in-Elements
unfolding show_pieces
returns-in-Elements c = rw c.in-Elements.is c.show_elements.ensures

pub returns-in-Bracket : goal.returns-in-Bracket
unfolding show_pieces
returns-in-Bracket c = put_none c.args.names.now c.args.to.now c.append-in-Bracket.new.self (codes "]") c.args.stack.now _ c.append-in-Bracket.result c.append-in-Bracket.ensures.ok (rw c.in-Bracket.is refl)

pub returns-in-Space : goal.returns-in-Space
unfolding show_pieces
returns-in-Space c = put_none c.args.names.now c.args.to.now c.append-in-Space.new.self (codes " ") c.args.stack.now _ c.append-in-Space.result c.append-in-Space.ensures.ok (rw c.in-Space.is refl)

pub returns-in-Base : goal.returns-in-Base
unfolding show_pieces
returns-in-Base c = put_none c.args.names.now c.args.to.now c.append-in-Base.new.self (codes ", ptr ") c.args.stack.now _ c.append-in-Base.result c.append-in-Base.ensures.ok (rw c.in-Base.is refl)
