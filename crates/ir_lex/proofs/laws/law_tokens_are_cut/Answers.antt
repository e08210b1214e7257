use Rattle.ir_lex.proofs.Wholes.{cut_whole}
use Rattle.ir_lex.proofs.laws.law_tokens_are_cut.Goals as goal

pub returns : goal.returns
returns c = cut_whole
