use Rattle.turn_laws.proofs.Sites.{logs_are_at}
use Rattle.turn_laws.proofs.logs_are_at_the_site.Goals as goal

pub returns : goal.returns
returns g c = logs_are_at _ _
