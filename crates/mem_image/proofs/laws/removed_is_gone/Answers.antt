use Rattle.mem_image.proofs.Lookups.{shape-remove, peek-remove}
use Rattle.mem_image.proofs.laws.removed_is_gone.Goals as goal

pub returns : goal.returns
returns c m old name offset k = (shape-remove m old name k, peek-remove m old name offset k)
