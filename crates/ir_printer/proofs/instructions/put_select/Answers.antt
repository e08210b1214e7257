use Rattle.std.proofs.Common.{◌++◌}
use Rattle.std.specs.Prelude.{codes}
use Rattle.ir_tree.specs.Naming.{name_at}
use Rattle.ir_tree.specs.Shown.{shown_operand, shown_argument}
use Rattle.ir_printer.specs.Instructions.{assigned, condition_pieces, next_argument}
use Rattle.ir_printer.proofs.Spelled.{put_then, put_last}
use Rattle.ir_printer.proofs.instructions.put_select.Goals as goal

pub returns : goal.returns
returns c =
    put_last c.put_next_argument-2.result c.args.to.now c.put_next_argument.new.to c.put_next_argument-2.new.to (assigned (name_at c.args.names.now c.args.name) (codes "select") ++ (condition_pieces (shown_operand c.args.names.now c.args.condition)) ++ (next_argument (shown_argument c.args.names.now c.args.on_true))) (next_argument (shown_argument c.args.names.now c.args.on_false))
    (put_then c.args.to.now c.put_condition.new.to c.put_next_argument.new.to (assigned (name_at c.args.names.now c.args.name) (codes "select") ++ (condition_pieces (shown_operand c.args.names.now c.args.condition))) (next_argument (shown_argument c.args.names.now c.args.on_true)) (put_then c.args.to.now c.put_assigned.new.to c.put_condition.new.to (assigned (name_at c.args.names.now c.args.name) (codes "select")) (condition_pieces (shown_operand c.args.names.now c.args.condition)) (c.in_ok-put_assigned.ensures) c.in_ok-put_condition.ensures) c.in_ok-put_next_argument.ensures) c.put_next_argument-2.ensures
