use Rattle.std.specs.Prelude.{codes}
use Rattle.ir_tree.specs.Naming.{name_at, type_at}
use Rattle.ir_tree.specs.Shown.{shown, shown_operand}
use Rattle.ir_printer.specs.Instructions.{assigned, value_pieces, instruction_pieces}
use Rattle.ir_printer.proofs.Spelled.{put_last}
use Rattle.ir_printer.proofs.instructions.put_freeze.Goals as goal

pub returns : goal.returns
unfolding instruction_pieces shown
returns c =
    put_last c.put_value.result c.args.to.now c.put_assigned.new.to c.put_value.new.to (assigned (name_at c.args.names.now c.args.name) (codes "freeze")) (value_pieces (type_at c.args.names.now c.args.of) (shown_operand c.args.names.now c.args.value))
    (c.in_ok-put_assigned.ensures) c.put_value.ensures
