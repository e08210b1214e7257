use Rattle.seq_machine.proofs.Kept.{popped}
use Rattle.seq_machine.proofs.acts.drop_top.Goals as goal

pub returns : goal.returns
returns c = popped _ _ c.pop-top.result c.pop-top.ensures
