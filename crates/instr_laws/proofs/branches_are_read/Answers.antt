use Rattle.instr_laws.proofs.ControlLaws.{jump_or_branch_laws}
use Rattle.instr_laws.proofs.branches_are_read.Goals as goal

pub returns : goal.returns
returns c = jump_or_branch_laws
