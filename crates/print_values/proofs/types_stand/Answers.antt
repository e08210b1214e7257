use Rattle.print_values.proofs.Standing.{types_stand}
use Rattle.print_values.proofs.types_stand.Goals as goal

pub returns : goal.returns
returns c = types_stand
