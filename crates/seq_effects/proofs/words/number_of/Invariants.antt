use Rattle.std.proofs.Common.{◌≡◌, ◌≤◌, ◌<◌, ◌^◌, ◌-◌, drop, length, Some}
use Rattle.seq_effects.specs.Words.{number_of}
use Rattle.seq_effects.proofs.words.number_of.Given as goal

abbrev pub invariant-loop-i : goal.invariant-loop-i
invariant-loop-i l = (l.i ≤ length l.bytes) × (number_of (drop l.i l.bytes) ≡ Some l.number) × (l.number < 256 ^ (length l.bytes - l.i))

abbrev pub decreases-loop-i : goal.decreases-loop-i
decreases-loop-i l = l.i
