use Rattle.seq_machine.specs.Step.{stands}
use Rattle.machine_calls.proofs.Changes.{register_kept}
use Rattle.machine_calls.proofs.change.set_register.Goals as goal

pub returns-clause-kept : goal.returns-clause-kept
returns-clause-kept g c = λ code h holds. register_kept code (stands g.M.Mem.image c.args.state.now) c.put_register.new.frames c.args.to c.args.value h holds c.put_register.ensures
