use Rattle.std.proofs.Common.{◌-◌, ap}
use Rattle.seq_machine.proofs.FrameLists.{with_set}
use Rattle.seq_machine.proofs.acts.take_top.Goals as goal

pub returns-clause-put : goal.returns-clause-put
returns-clause-put c = with_set c.args.frames.now c.replace.new.self (c.len-last.result - 1) _ (ap (λ n. n - 1) c.len-last.ensures) c.replace.ensures.new
