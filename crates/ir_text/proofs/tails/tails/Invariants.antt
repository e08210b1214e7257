use Rattle.std.proofs.Common.{◌≡◌, length}
use Rattle.ir_text.specs.Tails.{tails_at}
use Rattle.ir_text.proofs.tails.tails.Given as goal

abbrev pub invariant-loop-cursor : goal.invariant-loop-cursor
invariant-loop-cursor l = tails_at l.cursor ≡ tails_at l.fn.cursor

abbrev pub decreases-loop-cursor : goal.decreases-loop-cursor
decreases-loop-cursor l = length l.cursor
