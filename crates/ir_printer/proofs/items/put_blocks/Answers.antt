use Rattle.std.proofs.Common.{◌++◌, map, sym}
use Rattle.ir_tree.specs.Shown.{shown_block}
use Rattle.ir_printer.specs.Pieces.{bytes_of, joined}
use Rattle.ir_printer.specs.Items.{block_pieces}
use Rattle.ir_printer.proofs.Spelled.{joined_step}
use Rattle.ir_printer.proofs.items.put_blocks.Goals as goal

pub loop-block-preserved : goal.loop-block-preserved
loop-block-preserved c =
    joined_step block_pieces (shown_block c.args.names.now) c.args.blocks.now c.loop-block.block-index c.block-item.result c.block-item.result c.loop-block.to c.put_block.new.to
    (c.args.to.now ++ bytes_of (joined (map block_pieces (map (shown_block c.args.names.now) c.args.blocks.now)))) c.loop-block-test.true (sym c.block-item.is) c.in_ok-put_block.ensures c.loop-block.invariant
