use Rattle.profile_laws.proofs.Undo.{same_profile}
use Rattle.profile_laws.proofs.one_profile.Goals as goal

pub returns : goal.returns
returns c = same_profile
