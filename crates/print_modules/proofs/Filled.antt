-- The laws of canonical text, by those of its pieces, values and functions.
use Rattle.module_laws.proofs.WholeLaws.{read_is_spelled}
use Rattle.module_laws.proofs.Uniqueness.{spelled_is_read, one_module}
use Rattle.print_tokens.proofs.Whole.{pieces_read}
use Rattle.print_values.proofs.ConstantTrees.{constants_back}
use Rattle.print_values.proofs.Names.{names_fit, names_back}
use Rattle.print_values.proofs.Standing.{types_stand, constants_stand}
use Rattle.print_values.proofs.TypeTrees.{types_back}
use Rattle.print_functions.proofs.Whole.{declarations_read_back, definitions_read_back, functions_are_lines}
use Rattle.print_modules.specs.Laws.{ReadsBack, SpellsNoOther, PrintsTheSame}
use Rattle.print_modules.proofs.Whole.{Laws, reads_back, spells_no_other, prints_the_same}

laws : Laws
laws = record {
  pieces = pieces_read;
  names = names_fit;
  names_back = names_back;
  types_back = types_back;
  constants_back = constants_back;
  types_stand = types_stand;
  constants_stand = constants_stand;
  functions_stand = functions_are_lines;
  declarations_back = declarations_read_back;
  definitions_back = definitions_read_back;
}

pub canonical_reads_back : ReadsBack
canonical_reads_back = reads_back laws read_is_spelled spelled_is_read one_module

pub canonical_spells_no_other : SpellsNoOther
canonical_spells_no_other = spells_no_other laws read_is_spelled spelled_is_read one_module

pub canonical_prints_the_same : PrintsTheSame
canonical_prints_the_same = prints_the_same laws read_is_spelled spelled_is_read one_module
