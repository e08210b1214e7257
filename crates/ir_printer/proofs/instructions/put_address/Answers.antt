use Rattle.std.proofs.Common.{◌++◌, map}
use Rattle.std.specs.Prelude.{codes}
use Rattle.ir_tree.specs.Naming.{name_at, type_at}
use Rattle.ir_tree.specs.Shown.{shown, shown_operand, shown_argument}
use Rattle.ir_printer.specs.Pieces.{led}
use Rattle.ir_printer.specs.Operands.{argument_pieces}
use Rattle.ir_printer.specs.Instructions.{flag, assigned, typed, next_pointer, instruction_pieces}
use Rattle.ir_printer.proofs.Spelled.{put_then, put_last}
use Rattle.ir_printer.proofs.instructions.put_address.Goals as goal

pub returns : goal.returns
unfolding instruction_pieces shown
returns c =
    put_last c.put_next_arguments.result c.args.to.now c.put_next_pointer.new.to c.put_next_arguments.new.to (assigned (name_at c.args.names.now c.args.name) (codes "getelementptr") ++ (flag c.args.inbounds (codes "inbounds")) ++ (typed (type_at c.args.names.now c.args.of)) ++ (next_pointer (shown_operand c.args.names.now c.args.base))) (led (map argument_pieces (map (shown_argument c.args.names.now) c.args.indices.now)))
    (put_then c.args.to.now c.put_typed.new.to c.put_next_pointer.new.to (assigned (name_at c.args.names.now c.args.name) (codes "getelementptr") ++ (flag c.args.inbounds (codes "inbounds")) ++ (typed (type_at c.args.names.now c.args.of))) (next_pointer (shown_operand c.args.names.now c.args.base)) (put_then c.args.to.now c.put_flag.new.to c.put_typed.new.to (assigned (name_at c.args.names.now c.args.name) (codes "getelementptr") ++ (flag c.args.inbounds (codes "inbounds"))) (typed (type_at c.args.names.now c.args.of)) (put_then c.args.to.now c.put_assigned.new.to c.put_flag.new.to (assigned (name_at c.args.names.now c.args.name) (codes "getelementptr")) (flag c.args.inbounds (codes "inbounds")) (c.in_ok-put_assigned.ensures) c.in_ok-put_flag.ensures) c.in_ok-put_typed.ensures) c.in_ok-put_next_pointer.ensures) c.put_next_arguments.ensures
