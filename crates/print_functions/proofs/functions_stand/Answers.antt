use Rattle.print_functions.proofs.Whole.{functions_are_lines}
use Rattle.print_functions.proofs.functions_stand.Goals as goal

pub returns : goal.returns
returns c = functions_are_lines
