use Rattle.instr_laws.proofs.FormLaws.{cast_laws}
use Rattle.instr_laws.proofs.casts_are_read.Goals as goal

pub returns : goal.returns
returns c = cast_laws
