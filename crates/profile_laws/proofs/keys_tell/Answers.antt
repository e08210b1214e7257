use Rattle.profile_laws.proofs.SameKeys.{keys_tell}
use Rattle.profile_laws.proofs.keys_tell.Goals as goal

pub returns : goal.returns
returns c = keys_tell
