use Rattle.fault_laws.proofs.Bytes.{alike_are_read}
use Rattle.fault_laws.proofs.alike_are_read.Goals as goal

pub returns : goal.returns
returns c = alike_are_read
