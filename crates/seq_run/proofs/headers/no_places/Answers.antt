use Rattle.std.proofs.Common.{arith}
use Rattle.std.proofs.lemmas.Grind.{common_steps}
use Rattle.seq_run.proofs.Places.{no_place_more}
use Rattle.seq_run.proofs.headers.no_places.Goals as goal

pub loop-number-preserved : goal.loop-number-preserved
loop-number-preserved c = record {
  room = grind (arith, common_steps);
  none = no_place_more c.loop-number.places c.push.new.self _ _ c.loop-number.invariant.none c.in_ok-repeat.ensures c.in_ok-push.ensures.ok;
}
