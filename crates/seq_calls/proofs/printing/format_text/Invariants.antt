use Rattle.std.proofs.Common.{length, ◌-◌, ◌≡◌, ◌≤◌, drop}
use Rattle.seq_calls.specs.Format.{pieces_behind, printed, formatted}
use Rattle.seq_calls.proofs.Steps.{onto}
use Rattle.seq_calls.proofs.printing.format_text.Given as goal

abbrev pub invariant-loop-at : goal.invariant-loop-at
invariant-loop-at l = record { within : l.at ≤ length l.format; counted : l.number ≤ length l.args; so_far : onto l.out (printed (pieces_behind 0 (drop l.at l.format)) l.args l.number) ≡ formatted l.format l.args }

abbrev pub decreases-loop-at : goal.decreases-loop-at
decreases-loop-at l = length l.format - l.at
