use Rattle.mem_image.proofs.Lookups.{shape-lay, peek-lay}
use Rattle.mem_image.proofs.laws.laid_is_there.Goals as goal

pub returns : goal.returns
returns c m place bytes name offset le = (shape-lay m place bytes name le, peek-lay m place bytes name offset le)
