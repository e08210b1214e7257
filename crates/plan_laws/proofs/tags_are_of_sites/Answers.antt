use Rattle.plan_laws.proofs.Laws.{tags_are_of_sites}
use Rattle.plan_laws.proofs.tags_are_of_sites.Goals as goal

pub returns : goal.returns
returns c = tags_are_of_sites
