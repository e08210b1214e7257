use Rattle.print_values.proofs.Standing.{constants_stand}
use Rattle.print_values.proofs.constants_stand.Goals as goal

pub returns : goal.returns
returns c = constants_stand
