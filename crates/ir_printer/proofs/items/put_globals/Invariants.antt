use Rattle.std.proofs.Common.{◌≡◌, ◌++◌, map, drop}
use Rattle.ir_tree.specs.Shown.{shown_global}
use Rattle.ir_printer.specs.Pieces.{bytes_of, joined}
use Rattle.ir_printer.specs.Items.{global_pieces}
use Rattle.ir_printer.proofs.items.put_globals.Given as goal

abbrev pub invariant-loop-global : goal.invariant-loop-global
invariant-loop-global l =
    l.to ++ bytes_of (joined (map global_pieces (map (shown_global l.names) (drop l.global-index l.globals)))) ≡ l.initial.to ++ bytes_of (joined (map global_pieces (map (shown_global l.names) l.globals)))
