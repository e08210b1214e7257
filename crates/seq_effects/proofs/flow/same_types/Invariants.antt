use Rattle.std.proofs.Common.{◌≡◌, drop}
use Rattle.seq_effects.specs.Flow.{same_types}
use Rattle.seq_effects.proofs.flow.same_types.Given as goal

abbrev pub invariant-loop-i : goal.invariant-loop-i
invariant-loop-i l = same_types (drop l.i l.one) (drop l.i l.other) ≡ same_types l.one l.other
