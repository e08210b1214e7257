use Rattle.profile_laws.proofs.Faults.{first_found}
use Rattle.profile_laws.proofs.first_faults_are_found.Goals as goal

pub returns : goal.returns
returns c = first_found
