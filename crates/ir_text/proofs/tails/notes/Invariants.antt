use Rattle.std.proofs.Common.{◌≡◌, length}
use Rattle.ir_text.specs.Tails.{notes_at}
use Rattle.ir_text.proofs.tails.notes.Given as goal

abbrev pub invariant-loop-cursor : goal.invariant-loop-cursor
invariant-loop-cursor l = notes_at l.cursor ≡ notes_at l.fn.cursor

abbrev pub decreases-loop-cursor : goal.decreases-loop-cursor
decreases-loop-cursor l = length l.cursor
