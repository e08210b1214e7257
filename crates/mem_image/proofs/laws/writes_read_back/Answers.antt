use Rattle.mem_image.proofs.Meanings.{reads_back}
use Rattle.mem_image.proofs.laws.writes_read_back.Goals as goal

pub returns : goal.returns
returns c = reads_back
