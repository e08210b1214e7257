use Rattle.std.proofs.Common.{◌≡◌, drop, pos, neg_ℤ, ◌≤ℤ◌}
use Rattle.seq_effects.specs.Accesses.{exact, distance}
use Rattle.seq_effects.proofs.Totals.{onto}
use Rattle.seq_effects.proofs.addresses.distance.Given as goal

abbrev pub invariant-loop-index : goal.invariant-loop-index
invariant-loop-index l =
    (onto (exact l.sum) (distance l.frame (drop l.index-index l.indices)) ≡ distance l.frame l.indices)
    × (neg_ℤ (pos l.index-index) ≤ℤ l.sum.turns)
    × (l.sum.turns ≤ℤ pos l.index-index)
