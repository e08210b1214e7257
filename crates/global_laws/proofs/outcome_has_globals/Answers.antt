use Rattle.global_laws.proofs.Programs.{outcome_has_globals}
use Rattle.global_laws.proofs.outcome_has_globals.Goals as goal

pub returns : goal.returns
returns c = outcome_has_globals
