use Rattle.ir_tree.specs.Naming.{type_at}
use Rattle.ir_tree.specs.Shown.{shown_operand}
use Rattle.ir_printer.specs.Instructions.{typed, reading}
use Rattle.ir_printer.proofs.Spelled.{put_last}
use Rattle.ir_printer.proofs.instructions.put_value.Goals as goal

pub returns : goal.returns
returns c =
    put_last c.put_reading.result c.args.to.now c.put_typed.new.to c.put_reading.new.to (typed (type_at c.args.names.now c.args.of)) (reading (shown_operand c.args.names.now c.args.value))
    (c.in_ok-put_typed.ensures) c.put_reading.ensures
