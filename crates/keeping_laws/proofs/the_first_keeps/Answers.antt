use Rattle.keeping_laws.proofs.Firsts.{first_keeps}
use Rattle.keeping_laws.proofs.the_first_keeps.Goals as goal

pub returns : goal.returns
returns c = first_keeps
