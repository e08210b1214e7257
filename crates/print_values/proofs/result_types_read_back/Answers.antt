use Rattle.print_values.proofs.Types.{result_types_back}
use Rattle.print_values.proofs.result_types_read_back.Goals as goal

pub returns : goal.returns
returns c = result_types_back
