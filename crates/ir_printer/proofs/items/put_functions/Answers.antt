use Rattle.std.proofs.Common.{◌++◌, map, sym}
use Rattle.ir_tree.specs.Shown.{shown_function}
use Rattle.ir_printer.specs.Pieces.{bytes_of, joined}
use Rattle.ir_printer.specs.Items.{function_pieces}
use Rattle.ir_printer.proofs.Spelled.{joined_step}
use Rattle.ir_printer.proofs.items.put_functions.Goals as goal

pub loop-function-preserved : goal.loop-function-preserved
loop-function-preserved c =
    joined_step function_pieces (shown_function c.args.names.now) c.args.functions.now c.loop-function.function-index c.function-item.result c.function-item.result c.loop-function.to c.put_function.new.to
    (c.args.to.now ++ bytes_of (joined (map function_pieces (map (shown_function c.args.names.now) c.args.functions.now)))) c.loop-function-test.true (sym c.function-item.is) c.in_ok-put_function.ensures c.loop-function.invariant
