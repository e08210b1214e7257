use Rattle.std.proofs.Common.{take}
use Rattle.machine_calls.specs.Turns.{AreMarked}
use Rattle.machine_calls.proofs.turn.mark_all.Given as goal

abbrev pub invariant-loop-number : goal.invariant-loop-number
invariant-loop-number l = AreMarked (take l.number l.blocks) l.marks
