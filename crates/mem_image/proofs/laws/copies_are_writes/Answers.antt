use Rattle.mem_image.proofs.Meanings.{copies_are_writes}
use Rattle.mem_image.proofs.laws.copies_are_writes.Goals as goal

pub returns : goal.returns
returns c = copies_are_writes
