use Rattle.seq_machine.specs.Step.{stands}
use Rattle.machine_calls.proofs.Changes.{register_unset}
use Rattle.machine_calls.proofs.change.unset_register.Goals as goal

pub returns-clause-kept : goal.returns-clause-kept
returns-clause-kept g c = λ code h. register_unset code (stands g.M.Mem.image c.args.state.now) c.put_register.new.frames c.args.to h c.put_register.ensures
