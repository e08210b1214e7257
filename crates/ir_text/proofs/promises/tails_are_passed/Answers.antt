use Rattle.ir_text.proofs.TailLaws.{tails_laws}
use Rattle.ir_text.proofs.promises.tails_are_passed.Goals as goal

pub returns : goal.returns
returns c = tails_laws
