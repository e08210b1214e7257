use Rattle.worked_spans.proofs.Worked.{rewriting_fails}
use Rattle.worked_spans.proofs.a_piece_fails.Goals as goal

pub returns : goal.returns
returns c = rewriting_fails
