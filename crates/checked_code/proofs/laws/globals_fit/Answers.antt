use Rattle.checked_code.proofs.Fitting.{globals_fit}
use Rattle.checked_code.proofs.laws.globals_fit.Goals as goal

pub returns : goal.returns
returns c = globals_fit
