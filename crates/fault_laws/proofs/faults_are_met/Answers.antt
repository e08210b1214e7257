use Rattle.fault_laws.proofs.Texts.{faults_are_met}
use Rattle.fault_laws.proofs.faults_are_met.Goals as goal

pub returns : goal.returns
returns c = faults_are_met
