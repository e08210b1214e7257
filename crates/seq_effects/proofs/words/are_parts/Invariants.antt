use Rattle.std.proofs.Common.{◌≡◌, drop}
use Rattle.seq_effects.specs.Words.{are_parts}
use Rattle.seq_effects.proofs.words.are_parts.Given as goal

abbrev pub invariant-loop-i : goal.invariant-loop-i
invariant-loop-i l = are_parts l.i l.pointer (drop l.i l.bytes) ≡ are_parts 0 l.pointer l.bytes
