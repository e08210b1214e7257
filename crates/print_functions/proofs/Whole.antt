-- The laws of printed functions, by those of printed names, types and instructions.
use Rattle.print_values.proofs.Names.{names_fit, names_back}
use Rattle.print_values.proofs.Types.{register_types_back, result_types_back}
use Rattle.print_values.proofs.Standing.{types_stand, constants_stand, operands_stand}
use Rattle.print_instrs.specs.Laws.{InstructionsReadBack, InstructionsStand}
use Rattle.print_instrs.proofs.Filled.{values}
use Rattle.print_instrs.proofs.Instructions.{read_back}
use Rattle.print_instrs.proofs.Standing.{stand}
use Rattle.print_functions.specs.Laws.{DeclarationsReadBack, DefinitionsReadBack, FunctionsStand}
use Rattle.print_functions.proofs.Functions.{declarations_back, definitions_back}
use Rattle.print_functions.proofs.Standing.{functions_stand}

instructions_back : InstructionsReadBack
instructions_back = read_back values

instructions_stand : InstructionsStand
instructions_stand = stand types_stand constants_stand operands_stand

pub declarations_read_back : DeclarationsReadBack
declarations_read_back = declarations_back names_fit names_back register_types_back types_stand result_types_back

pub definitions_read_back : DefinitionsReadBack
definitions_read_back = definitions_back names_fit names_back register_types_back types_stand result_types_back instructions_back instructions_stand

pub functions_are_lines : FunctionsStand
functions_are_lines = functions_stand types_stand instructions_stand
