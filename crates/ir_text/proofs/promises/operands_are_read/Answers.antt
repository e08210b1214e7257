use Rattle.ir_text.proofs.OperandLaws.{operand_laws}
use Rattle.ir_text.proofs.promises.operands_are_read.Goals as goal

pub returns : goal.returns
returns c = operand_laws
