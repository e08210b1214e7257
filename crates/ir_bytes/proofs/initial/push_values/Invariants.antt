use Rattle.std.proofs.Common.{◌≡◌, ◌++◌, drop, reverse}
use Rattle.ir_bytes.specs.Works.{value_works}
use Rattle.ir_bytes.proofs.initial.push_values.Given as goal

abbrev pub invariant-loop-i : goal.invariant-loop-i
invariant-loop-i l = reverse l.work ≡ value_works (drop l.i l.elements) ++ reverse l.initial.work
