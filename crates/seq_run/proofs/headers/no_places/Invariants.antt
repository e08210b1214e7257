use Rattle.std.proofs.Common.{◌≡◌, [], take}
use Rattle.seq_run.specs.Places.{ArePlaced, rooms}
use Rattle.seq_run.proofs.headers.no_places.Given as goal

abbrev pub invariant-loop-number : goal.invariant-loop-number
invariant-loop-number l = record {
  room : l.places ≡ rooms (take l.number l.functions);
  none : ArePlaced [] l.places;
}
