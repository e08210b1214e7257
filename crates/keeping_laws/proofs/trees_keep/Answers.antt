use Rattle.keeping_laws.proofs.Pictures.{trees_keep}
use Rattle.keeping_laws.proofs.trees_keep.Goals as goal

pub returns : goal.returns
returns c = trees_keep
