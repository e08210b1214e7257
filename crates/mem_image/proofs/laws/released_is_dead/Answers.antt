use Rattle.mem_image.proofs.Meanings.{released_is_dead}
use Rattle.mem_image.proofs.laws.released_is_dead.Goals as goal

pub returns : goal.returns
returns c = released_is_dead
