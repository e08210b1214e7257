use Rattle.std.proofs.Common.{◌≡◌, take}
use Rattle.machine_calls.proofs.copy.copy_frames.Given as goal

abbrev pub invariant-loop-number : goal.invariant-loop-number
invariant-loop-number l = l.all ≡ take l.number l.frames
