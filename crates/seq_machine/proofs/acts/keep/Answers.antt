use Rattle.std.proofs.Common.{◌∙◌, ap}
use Rattle.seq_machine.proofs.Kept.{put_back}
use Rattle.seq_machine.proofs.acts.keep.Goals as goal

pub returns-in-Err-clause-err : goal.returns-in-Err-clause-err
returns-in-Err-clause-err c =
    c.put_top.ensures ∙ put_back c.args.frames.now c.take_top-frame.new.frames c.take_top-frame.result _ c.take_top-frame.ensures.top c.take_top-frame.ensures.put (ap (λ own. record c.take_top-frame.result { own = own }) c.in-Err.ensures.err)
