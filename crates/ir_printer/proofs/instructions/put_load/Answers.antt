use Rattle.std.proofs.Common.{◌++◌}
use Rattle.std.specs.Prelude.{codes}
use Rattle.ir_tree.specs.Naming.{name_at, type_at}
use Rattle.ir_tree.specs.Shown.{shown, shown_operand}
use Rattle.ir_printer.specs.Instructions.{assigned, typed, next_pointer, instruction_pieces}
use Rattle.ir_printer.proofs.Spelled.{put_then, put_last}
use Rattle.ir_printer.proofs.instructions.put_load.Goals as goal

pub returns : goal.returns
unfolding instruction_pieces shown
returns c =
    put_last c.put_next_pointer.result c.args.to.now c.put_typed.new.to c.put_next_pointer.new.to (assigned (name_at c.args.names.now c.args.name) (codes "load") ++ (typed (type_at c.args.names.now c.args.of))) (next_pointer (shown_operand c.args.names.now c.args.pointer))
    (put_then c.args.to.now c.put_assigned.new.to c.put_typed.new.to (assigned (name_at c.args.names.now c.args.name) (codes "load")) (typed (type_at c.args.names.now c.args.of)) (c.in_ok-put_assigned.ensures) c.in_ok-put_typed.ensures) c.put_next_pointer.ensures
