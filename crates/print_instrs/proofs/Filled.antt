-- Printed names, types, constants and operands read back.
use Rattle.print_values.proofs.Names.{names_fit, names_back}
use Rattle.print_values.proofs.Types.{register_types_back, result_types_back}
use Rattle.print_values.proofs.TypeTrees.{types_back}
use Rattle.print_values.proofs.ConstantTrees.{constants_back, operands_back}
use Rattle.print_instrs.proofs.Below.{ValuesReadBack}

pub values : ValuesReadBack
values = record {
  names_fit = names_fit;
  names_back = names_back;
  types_back = types_back;
  registers_back = register_types_back;
  results_back = result_types_back;
  constants_back = constants_back;
  operands_back = operands_back;
}
