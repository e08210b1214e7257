use Rattle.std.proofs.Common.{◌++◌, map, refl}
use Rattle.ir_tree.specs.Shown.{shown_global}
use Rattle.ir_printer.specs.Pieces.{bytes_of, joined}
use Rattle.ir_printer.specs.Items.{global_pieces}
use Rattle.ir_printer.proofs.Spelled.{joined_step}
use Rattle.ir_printer.proofs.items.put_globals.Goals as goal

pub loop-global-preserved : goal.loop-global-preserved
loop-global-preserved c =
    joined_step global_pieces (shown_global c.args.names.now) c.args.globals.now c.loop-global.global-index _ _ c.loop-global.to c.put_global_item.new.to
    (c.args.to.now ++ bytes_of (joined (map global_pieces (map (shown_global c.args.names.now) c.args.globals.now)))) c.loop-global-test.true refl c.in_ok-put_global_item.ensures c.loop-global.invariant
