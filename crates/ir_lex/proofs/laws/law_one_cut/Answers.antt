use Rattle.ir_lex.proofs.Wholes.{one_cut}
use Rattle.ir_lex.proofs.laws.law_one_cut.Goals as goal

pub returns : goal.returns
returns c = one_cut
