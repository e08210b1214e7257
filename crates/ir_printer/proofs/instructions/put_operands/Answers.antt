use Rattle.ir_tree.specs.Naming.{type_at}
use Rattle.ir_tree.specs.Shown.{shown_operand}
use Rattle.ir_printer.specs.Instructions.{value_pieces, next_operand}
use Rattle.ir_printer.proofs.Spelled.{put_last}
use Rattle.ir_printer.proofs.instructions.put_operands.Goals as goal

pub returns : goal.returns
returns c =
    put_last c.put_next_operand.result c.args.to.now c.put_value.new.to c.put_next_operand.new.to (value_pieces (type_at c.args.names.now c.args.of) (shown_operand c.args.names.now c.args.left)) (next_operand (shown_operand c.args.names.now c.args.right))
    (c.in_ok-put_value.ensures) c.put_next_operand.ensures
