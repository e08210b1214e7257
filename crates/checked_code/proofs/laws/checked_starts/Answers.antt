use Rattle.checked_code.proofs.Starting.{starts}
use Rattle.checked_code.proofs.laws.checked_starts.Goals as goal

pub returns : goal.returns
returns c = starts
