use Rattle.ir_lex.proofs.Wholes.{in_order}
use Rattle.ir_lex.proofs.laws.law_tokens_in_order.Goals as goal

pub returns : goal.returns
returns c = in_order
