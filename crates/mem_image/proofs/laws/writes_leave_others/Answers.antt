use Rattle.mem_image.proofs.Meanings.{others_stay}
use Rattle.mem_image.proofs.laws.writes_leave_others.Goals as goal

pub returns : goal.returns
returns c = others_stay
