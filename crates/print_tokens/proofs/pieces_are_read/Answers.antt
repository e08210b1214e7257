use Rattle.print_tokens.proofs.Whole.{pieces_read}
use Rattle.print_tokens.proofs.pieces_are_read.Goals as goal

pub returns : goal.returns
returns c = pieces_read
