use Rattle.std.proofs.Common.{◌≡◌, ◌++◌}
use Rattle.ir_bytes.specs.Initial.{zeros}
use Rattle.ir_bytes.proofs.pieces.push_zeros.Given as goal

abbrev pub invariant-loop : goal.invariant-loop
invariant-loop l = l.bytes ≡ l.initial.bytes ++ zeros l.counter
