use Rattle.std.proofs.Common.{◌++◌, map, refl}
use Rattle.ir_tree.specs.Shown.{shown_param}
use Rattle.ir_printer.specs.Pieces.{bytes_of, led}
use Rattle.ir_printer.specs.Items.{param_pieces}
use Rattle.ir_printer.proofs.Spelled.{led_step}
use Rattle.ir_printer.proofs.items.put_next_params.Goals as goal

pub loop-param-preserved : goal.loop-param-preserved
loop-param-preserved c =
    led_step param_pieces (shown_param c.args.names.now) c.args.params.now c.loop-param.param-index _ _ c.loop-param.to c.put_next_param.new.to
    (c.args.to.now ++ bytes_of (led (map param_pieces (map (shown_param c.args.names.now) c.args.params.now)))) c.loop-param-test.true refl c.in_ok-put_next_param.ensures c.loop-param.invariant
