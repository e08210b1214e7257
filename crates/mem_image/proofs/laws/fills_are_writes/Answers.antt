use Rattle.mem_image.proofs.Meanings.{fills_are_writes}
use Rattle.mem_image.proofs.laws.fills_are_writes.Goals as goal

pub returns : goal.returns
returns c = fills_are_writes
