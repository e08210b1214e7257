use Rattle.std.proofs.Common.{◌≡◌, map}
use Rattle.std.specs.List.{range_with_len}
use Rattle.ir_code.specs.Coding.{scalar_in}
use Rattle.ir_code.proofs.made.scalars.Given as goal

abbrev pub invariant-loop-number : goal.invariant-loop-number
invariant-loop-number l = l.scalars ≡ map (scalar_in l.names) (range_with_len 0 l.number)
