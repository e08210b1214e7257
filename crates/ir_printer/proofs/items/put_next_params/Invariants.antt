use Rattle.std.proofs.Common.{◌≡◌, ◌++◌, map, drop}
use Rattle.ir_tree.specs.Shown.{shown_param}
use Rattle.ir_printer.specs.Pieces.{bytes_of, led}
use Rattle.ir_printer.specs.Items.{param_pieces}
use Rattle.ir_printer.proofs.items.put_next_params.Given as goal

abbrev pub invariant-loop-param : goal.invariant-loop-param
invariant-loop-param l =
    l.to ++ bytes_of (led (map param_pieces (map (shown_param l.names) (drop l.param-index l.params)))) ≡ l.initial.to ++ bytes_of (led (map param_pieces (map (shown_param l.names) l.params)))
