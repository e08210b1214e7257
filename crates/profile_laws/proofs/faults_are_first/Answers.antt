use Rattle.profile_laws.proofs.Faults.{faults_first}
use Rattle.profile_laws.proofs.faults_are_first.Goals as goal

pub returns : goal.returns
returns c = faults_first
