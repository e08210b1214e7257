use Rattle.ir_text.proofs.MemoryLaws.{memory_laws}
use Rattle.ir_text.proofs.promises.memory_types_are_read.Goals as goal

pub returns : goal.returns
returns c = λ n known. memory_laws known n
