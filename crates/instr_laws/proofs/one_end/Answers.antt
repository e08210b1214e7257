use Rattle.instr_laws.proofs.OneLaws.{one_end}
use Rattle.instr_laws.proofs.one_end.Goals as goal

pub returns : goal.returns
returns c = one_end
