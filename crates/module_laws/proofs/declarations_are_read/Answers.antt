use Rattle.module_laws.proofs.FunctionLaws.{declaration_laws}
use Rattle.module_laws.proofs.declarations_are_read.Goals as goal

pub returns : goal.returns
returns c = declaration_laws
