use Rattle.ir_text.proofs.PassedLaws.{words_laws}
use Rattle.ir_text.proofs.promises.words_are_passed.Goals as goal

pub returns : goal.returns
returns c = λ n stop. words_laws stop n
