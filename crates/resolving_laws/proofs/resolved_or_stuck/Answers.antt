use Rattle.resolving_laws.proofs.Blocks.{resolved_or_stuck}
use Rattle.resolving_laws.proofs.resolved_or_stuck.Goals as goal

pub returns : goal.returns
returns c = resolved_or_stuck
