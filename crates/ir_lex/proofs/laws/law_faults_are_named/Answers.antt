use Rattle.ir_lex.proofs.Wholes.{faults_named}
use Rattle.ir_lex.proofs.laws.law_faults_are_named.Goals as goal

pub returns : goal.returns
returns c = faults_named
