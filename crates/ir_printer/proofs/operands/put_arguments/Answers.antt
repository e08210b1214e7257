use Rattle.ir_tree.specs.Shown.{shown_argument}
use Rattle.ir_printer.specs.Operands.{argument_pieces}
use Rattle.ir_printer.proofs.Spelled.{separated_first}
use Rattle.ir_printer.proofs.operands.put_arguments.Goals as goal

pub returns-in_ok-put_argument-in-len1-up : goal.returns-in_ok-put_argument-in-len1-up
returns-in_ok-put_argument-in-len1-up c =
    separated_first argument_pieces (shown_argument c.args.names.now) c.args.arguments.now _ c.put_next_arguments.result c.args.to.now c.put_argument.new.to c.put_next_arguments.new.to c.in-len1-up.len_at_least c.in_ok-put_argument-in-len1-up.ensures c.put_next_arguments.ensures
