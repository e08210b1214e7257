use Rattle.std.proofs.Common.{◌++◌}
use Rattle.ir_tree.specs.Naming.{name_at, type_at}
use Rattle.ir_tree.specs.Shown.{shown, shown_operand}
use Rattle.ir_printer.specs.Instructions.{operation_word, operation_flags, assigned, operands_pieces, instruction_pieces}
use Rattle.ir_printer.proofs.Spelled.{put_then, put_last}
use Rattle.ir_printer.proofs.instructions.put_binary.Goals as goal

pub returns : goal.returns
unfolding instruction_pieces shown
returns c =
    put_last c.put_operands.result c.args.to.now c.put_operation_flags.new.to c.put_operands.new.to (assigned (name_at c.args.names.now c.args.name) (operation_word c.args.op) ++ (operation_flags c.args.op c.args.flags)) (operands_pieces (type_at c.args.names.now c.args.of) (shown_operand c.args.names.now c.args.left) (shown_operand c.args.names.now c.args.right))
    (put_then c.args.to.now c.put_assigned.new.to c.put_operation_flags.new.to (assigned (name_at c.args.names.now c.args.name) (operation_word c.args.op)) (operation_flags c.args.op c.args.flags) ((rw c.operation_word.ensures at c.in_ok-put_assigned.ensures)) c.in_ok-put_operation_flags.ensures) c.put_operands.ensures
