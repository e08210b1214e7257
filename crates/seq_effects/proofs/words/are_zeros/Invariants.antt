use Rattle.std.proofs.Common.{◌≡◌, drop}
use Rattle.seq_effects.specs.Words.{are_zeros}
use Rattle.seq_effects.proofs.words.are_zeros.Given as goal

abbrev pub invariant-loop-byte : goal.invariant-loop-byte
invariant-loop-byte l = are_zeros l.byte-index (drop l.byte-index l.bytes) ≡ are_zeros 0 l.bytes
