use Rattle.std.proofs.Common.{◌≡◌, ◌++◌, drop}
use Rattle.ir_printer.specs.Pieces.{escaped}
use Rattle.ir_printer.proofs.spelling.put_escaped.Given as goal

abbrev pub invariant-loop-b : goal.invariant-loop-b
invariant-loop-b l = l.to ++ escaped (drop l.b-index l.bytes) ≡ l.initial.to ++ escaped l.bytes
