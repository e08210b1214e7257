use Rattle.mem_image.proofs.Lookups.{same_read}
use Rattle.mem_image.proofs.laws.bytes_tell_reads.Goals as goal

pub returns : goal.returns
returns c = same_read
