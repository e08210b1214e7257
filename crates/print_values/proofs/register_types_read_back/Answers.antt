use Rattle.print_values.proofs.Types.{register_types_back}
use Rattle.print_values.proofs.register_types_read_back.Goals as goal

pub returns : goal.returns
returns c = register_types_back
