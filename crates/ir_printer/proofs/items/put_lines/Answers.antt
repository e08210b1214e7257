use Rattle.std.proofs.Common.{◌++◌, map, sym}
use Rattle.ir_tree.specs.Shown.{shown}
use Rattle.ir_printer.specs.Pieces.{bytes_of, joined}
use Rattle.ir_printer.specs.Items.{instruction_line}
use Rattle.ir_printer.proofs.Spelled.{joined_step}
use Rattle.ir_printer.proofs.items.put_lines.Goals as goal

pub loop-line-preserved : goal.loop-line-preserved
loop-line-preserved c =
    joined_step instruction_line (shown c.args.names.now) c.args.lines.now c.loop-line.line-index c.line-item.result c.line-item.result c.loop-line.to c.put_line.new.to
    (c.args.to.now ++ bytes_of (joined (map instruction_line (map (shown c.args.names.now) c.args.lines.now)))) c.loop-line-test.true (sym c.line-item.is) c.in_ok-put_line.ensures c.loop-line.invariant
