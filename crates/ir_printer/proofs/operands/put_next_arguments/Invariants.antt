use Rattle.std.proofs.Common.{◌≡◌, ◌++◌, map, drop}
use Rattle.ir_tree.specs.Shown.{shown_argument}
use Rattle.ir_printer.specs.Pieces.{bytes_of, led}
use Rattle.ir_printer.specs.Operands.{argument_pieces}
use Rattle.ir_printer.proofs.operands.put_next_arguments.Given as goal

abbrev pub invariant-loop-argument : goal.invariant-loop-argument
invariant-loop-argument l =
    l.to ++ bytes_of (led (map argument_pieces (map (shown_argument l.names) (drop l.argument-index l.arguments)))) ≡ l.initial.to ++ bytes_of (led (map argument_pieces (map (shown_argument l.names) l.arguments)))
