use Rattle.std.proofs.Common.{◌≡◌, ◌++◌, map, drop}
use Rattle.ir_tree.specs.Shown.{shown_block}
use Rattle.ir_printer.specs.Pieces.{bytes_of, joined}
use Rattle.ir_printer.specs.Items.{block_pieces}
use Rattle.ir_printer.proofs.items.put_blocks.Given as goal

abbrev pub invariant-loop-block : goal.invariant-loop-block
invariant-loop-block l =
    l.to ++ bytes_of (joined (map block_pieces (map (shown_block l.names) (drop l.block-index l.blocks)))) ≡ l.initial.to ++ bytes_of (joined (map block_pieces (map (shown_block l.names) l.blocks)))
