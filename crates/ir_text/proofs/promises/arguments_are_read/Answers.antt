use Rattle.ir_text.proofs.OperandLaws.{argument_laws}
use Rattle.ir_text.proofs.promises.arguments_are_read.Goals as goal

pub returns : goal.returns
returns c = argument_laws
