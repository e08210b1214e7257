use Rattle.fault_laws.proofs.Lexing.{lexical_faults_stay}
use Rattle.fault_laws.proofs.lexical_faults_stay.Goals as goal

pub returns : goal.returns
returns c = lexical_faults_stay
