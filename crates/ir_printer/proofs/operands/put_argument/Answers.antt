use Rattle.ir_tree.specs.Naming.{type_at}
use Rattle.ir_tree.specs.Shown.{shown_operand}
use Rattle.ir_printer.specs.Operands.{type_pieces}
use Rattle.ir_printer.specs.Instructions.{reading}
use Rattle.ir_printer.proofs.Spelled.{put_last}
use Rattle.ir_printer.proofs.operands.put_argument.Goals as goal

pub returns : goal.returns
returns c =
    put_last c.put_reading.result c.args.to.now c.put_type.new.to c.put_reading.new.to (type_pieces (type_at c.args.names.now c.args.argument.of)) (reading (shown_operand c.args.names.now c.args.argument.value))
    (c.in_ok-put_type.ensures) c.put_reading.ensures
