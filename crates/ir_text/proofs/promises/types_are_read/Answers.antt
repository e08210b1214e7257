use Rattle.ir_text.proofs.TypeFuel.{type_laws}
use Rattle.ir_text.proofs.promises.types_are_read.Goals as goal

pub returns : goal.returns
returns c = λ n known. type_laws known n
