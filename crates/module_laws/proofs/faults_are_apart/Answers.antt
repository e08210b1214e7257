use Rattle.module_laws.proofs.Uniqueness.{faults_apart}
use Rattle.module_laws.proofs.faults_are_apart.Goals as goal

pub returns : goal.returns
returns c = faults_apart
