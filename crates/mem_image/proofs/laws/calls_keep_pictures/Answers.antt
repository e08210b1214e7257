use Rattle.mem_image.proofs.Meanings.{calls_keep}
use Rattle.mem_image.proofs.laws.calls_keep_pictures.Goals as goal

pub returns : goal.returns
returns c = calls_keep
