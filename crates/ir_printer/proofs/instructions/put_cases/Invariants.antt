use Rattle.std.proofs.Common.{◌≡◌, ◌++◌, map, drop}
use Rattle.ir_tree.specs.Naming.{type_at}
use Rattle.ir_tree.specs.Shown.{shown_case}
use Rattle.ir_printer.specs.Pieces.{bytes_of, joined}
use Rattle.ir_printer.specs.Instructions.{case_pieces}
use Rattle.ir_printer.proofs.instructions.put_cases.Given as goal

abbrev pub invariant-loop-case : goal.invariant-loop-case
invariant-loop-case l =
    l.to ++ bytes_of (joined (map (case_pieces (type_at l.names l.of)) (map (shown_case l.names) (drop l.case-index l.cases)))) ≡ l.initial.to ++ bytes_of (joined (map (case_pieces (type_at l.names l.of)) (map (shown_case l.names) l.cases)))
