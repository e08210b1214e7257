use Rattle.std.proofs.Common.{◌++◌, map, refl}
use Rattle.ir_tree.specs.Shown.{shown_argument}
use Rattle.ir_printer.specs.Pieces.{bytes_of, led}
use Rattle.ir_printer.specs.Operands.{argument_pieces}
use Rattle.ir_printer.proofs.Spelled.{led_step}
use Rattle.ir_printer.proofs.operands.put_next_arguments.Goals as goal

pub loop-argument-preserved : goal.loop-argument-preserved
loop-argument-preserved c =
    led_step argument_pieces (shown_argument c.args.names.now) c.args.arguments.now c.loop-argument.argument-index _ _ c.loop-argument.to c.put_next_argument.new.to
    (c.args.to.now ++ bytes_of (led (map argument_pieces (map (shown_argument c.args.names.now) c.args.arguments.now)))) c.loop-argument-test.true refl c.in_ok-put_next_argument.ensures c.loop-argument.invariant
