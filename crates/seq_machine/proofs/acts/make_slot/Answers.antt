use Rattle.seq_machine.proofs.Kept.{put_back_err}
use Rattle.seq_machine.proofs.acts.make_slot.Goals as goal

pub returns-clause-err : goal.returns-clause-err
returns-clause-err g c =
    put_back_err c.args.frames.now c.take_top-frame.new.frames c.put_top.new.frames c.take_top-frame.result _ c.fill_slot-done.result c.take_top-frame.ensures.top c.take_top-frame.ensures.put c.put_top.ensures c.fill_slot-done.ensures.err
