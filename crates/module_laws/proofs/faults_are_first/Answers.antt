use Rattle.module_laws.proofs.FaultLaws.{fault_is_first}
use Rattle.module_laws.proofs.faults_are_first.Goals as goal

pub returns : goal.returns
returns c = fault_is_first
