-- What is known of printed names, types, constants and operands.
use Rattle.print_values.specs.Laws.{NamesFit, NamesReadBack, TypesReadBack, RegisterTypesReadBack, ResultTypesReadBack, ConstantsReadBack, OperandsReadBack}

pub record ValuesReadBack : Type 0 where
  pub names_fit : NamesFit
  pub names_back : NamesReadBack
  pub types_back : TypesReadBack
  pub registers_back : RegisterTypesReadBack
  pub results_back : ResultTypesReadBack
  pub constants_back : ConstantsReadBack
  pub operands_back : OperandsReadBack
