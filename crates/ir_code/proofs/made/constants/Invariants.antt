use Rattle.std.proofs.Common.{◌≡◌, map}
use Rattle.std.specs.List.{range_with_len}
use Rattle.ir_code.specs.Coding.{constant_in}
use Rattle.ir_code.proofs.made.constants.Given as goal

abbrev pub invariant-loop-number : goal.invariant-loop-number
invariant-loop-number l = l.constants ≡ map (constant_in l.«module») (range_with_len 0 l.number)
