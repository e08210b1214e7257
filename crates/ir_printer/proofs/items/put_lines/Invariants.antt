use Rattle.std.proofs.Common.{◌≡◌, ◌++◌, map, drop}
use Rattle.ir_tree.specs.Shown.{shown}
use Rattle.ir_printer.specs.Pieces.{bytes_of, joined}
use Rattle.ir_printer.specs.Items.{instruction_line}
use Rattle.ir_printer.proofs.items.put_lines.Given as goal

abbrev pub invariant-loop-line : goal.invariant-loop-line
invariant-loop-line l =
    l.to ++ bytes_of (joined (map instruction_line (map (shown l.names) (drop l.line-index l.lines)))) ≡ l.initial.to ++ bytes_of (joined (map instruction_line (map (shown l.names) l.lines)))
