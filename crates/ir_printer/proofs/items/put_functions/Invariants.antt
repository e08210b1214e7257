use Rattle.std.proofs.Common.{◌≡◌, ◌++◌, map, drop}
use Rattle.ir_tree.specs.Shown.{shown_function}
use Rattle.ir_printer.specs.Pieces.{bytes_of, joined}
use Rattle.ir_printer.specs.Items.{function_pieces}
use Rattle.ir_printer.proofs.items.put_functions.Given as goal

abbrev pub invariant-loop-function : goal.invariant-loop-function
invariant-loop-function l =
    l.to ++ bytes_of (joined (map function_pieces (map (shown_function l.names) (drop l.function-index l.functions)))) ≡ l.initial.to ++ bytes_of (joined (map function_pieces (map (shown_function l.names) l.functions)))
