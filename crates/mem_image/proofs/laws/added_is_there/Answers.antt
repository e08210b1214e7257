use Rattle.mem_image.proofs.Lookups.{shape-added, peek-added}
use Rattle.mem_image.proofs.laws.added_is_there.Goals as goal

pub returns : goal.returns
returns c m site kind fixed bytes name offset k = (shape-added m site kind fixed bytes name k, peek-added m site kind fixed bytes name offset k)
