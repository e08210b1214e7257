use Rattle.privateer_core.proofs.TopLemmas.{says}
use Rattle.privateer_core.proofs.laws.the_top_says.Goals as goal

pub returns : goal.returns
returns c = says
