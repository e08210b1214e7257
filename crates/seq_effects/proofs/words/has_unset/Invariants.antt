use Rattle.std.proofs.Common.{◌≡◌, drop}
use Rattle.seq_effects.specs.Words.{has_unset}
use Rattle.seq_effects.proofs.words.has_unset.Given as goal

abbrev pub invariant-loop-byte : goal.invariant-loop-byte
invariant-loop-byte l = has_unset (drop l.byte-index l.bytes) ≡ has_unset l.bytes
