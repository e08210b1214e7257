use Rattle.std.proofs.Common.{◌++◌, map, refl}
use Rattle.ir_tree.specs.Shown.{shown_named}
use Rattle.ir_printer.specs.Pieces.{bytes_of, joined}
use Rattle.ir_printer.specs.Items.{named_pieces}
use Rattle.ir_printer.proofs.Spelled.{joined_step}
use Rattle.ir_printer.proofs.items.put_types.Goals as goal

pub loop-named-preserved : goal.loop-named-preserved
loop-named-preserved c =
    joined_step named_pieces (shown_named c.args.names.now) c.args.types.now c.loop-named.named-index _ _ c.loop-named.to c.put_named.new.to
    (c.args.to.now ++ bytes_of (joined (map named_pieces (map (shown_named c.args.names.now) c.args.types.now)))) c.loop-named-test.true refl c.in_ok-put_named.ensures c.loop-named.invariant
