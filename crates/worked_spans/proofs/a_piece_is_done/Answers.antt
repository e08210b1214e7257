use Rattle.worked_spans.proofs.Worked.{writing_is_done}
use Rattle.worked_spans.proofs.a_piece_is_done.Goals as goal

pub returns : goal.returns
returns c = writing_is_done
