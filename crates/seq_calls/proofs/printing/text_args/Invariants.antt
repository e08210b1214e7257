use Rattle.std.proofs.Common.{length, ◌-◌, ◌≡◌, ◌≤◌, ◌++◌, drop}
use Rattle.seq_calls.specs.Format.{pieces_behind, texts_of, text_args}
use Rattle.seq_calls.proofs.printing.text_args.Given as goal

abbrev pub invariant-loop-at : goal.invariant-loop-at
invariant-loop-at l = record { within : l.at ≤ length l.format; counted : l.number ≤ length l.args; so_far : l.found ++ texts_of (pieces_behind 0 (drop l.at l.format)) l.args l.number ≡ text_args l.format l.args }

abbrev pub decreases-loop-at : goal.decreases-loop-at
decreases-loop-at l = length l.format - l.at
