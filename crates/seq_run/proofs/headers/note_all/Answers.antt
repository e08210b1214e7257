use Rattle.std.proofs.Common.{take, sym}
use Rattle.std.proofs.lemmas.List.{length-take-le, take_more}
use Rattle.seq_run.proofs.Places.{placed_more}
use Rattle.seq_run.proofs.headers.note_all.Goals as goal

pub loop-place-preserved : goal.loop-place-preserved
loop-place-preserved c =
    let headers = c.args.headers.now in
    placed_more (take c.loop-place.place headers) _ c.loop-place.places c.note.new.places _ _ c.loop-place.invariant c.note.ensures
    (sym (length-take-le c.loop-place.place headers c.loop-place.auto.place-end)) (take_more headers c.loop-place.place _ c.loop-place-test.true)
