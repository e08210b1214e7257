use Rattle.std.proofs.Common.{◌≡◌, ◌++◌, map, drop}
use Rattle.ir_tree.specs.Shown.{shown_named}
use Rattle.ir_printer.specs.Pieces.{bytes_of, joined}
use Rattle.ir_printer.specs.Items.{named_pieces}
use Rattle.ir_printer.proofs.items.put_types.Given as goal

abbrev pub invariant-loop-named : goal.invariant-loop-named
invariant-loop-named l =
    l.to ++ bytes_of (joined (map named_pieces (map (shown_named l.names) (drop l.named-index l.types)))) ≡ l.initial.to ++ bytes_of (joined (map named_pieces (map (shown_named l.names) l.types)))
