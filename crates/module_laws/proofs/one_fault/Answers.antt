use Rattle.module_laws.proofs.Uniqueness.{one_fault}
use Rattle.module_laws.proofs.one_fault.Goals as goal

pub returns : goal.returns
returns c = one_fault
