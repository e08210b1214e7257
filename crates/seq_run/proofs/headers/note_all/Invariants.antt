use Rattle.std.proofs.Common.{take}
use Rattle.seq_run.specs.Places.{ArePlaced}
use Rattle.seq_run.proofs.headers.note_all.Given as goal

abbrev pub invariant-loop-place : goal.invariant-loop-place
invariant-loop-place l = ArePlaced (take l.place l.headers) l.places
