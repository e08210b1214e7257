use Rattle.mem_image.proofs.Lookups.{same_pictures}
use Rattle.mem_image.proofs.laws.lookups_tell_all.Goals as goal

pub returns : goal.returns
returns c = same_pictures
